-- The law of equal sets: histories with the same events have the same entries, and the same text at every version.
use Rattle.std.proofs.Common.{◌≡◌, ℕ, true, false, inl, ⊎_elim, List, [], ◌∷◌, ◌++◌, map, filter, flat_map, Option, Some, None, refl, sym, ap, ◌∙◌, subst, append_assoc, append-nil}
use Rattle.std.specs.List.{list_any, AllByRecursion}
use Rattle.std.specs.Cmp.{eq_by_cmp_equiv, IsEquivalence}
use Rattle.std.proofs.lemmas.Bool.{or_parts, false≢true}
use Rattle.std.proofs.lemmas.List.{map-append}
use Rattle.ew_model.specs.Sets.{Among, SameElements}
use Rattle.ew_model.specs.declared.id.Id.{Id}
use Rattle.ew_model.specs.declared.event.Event.{Event}
use Rattle.ew_model.specs.Ids.{id_eq, is_among}
use Rattle.ew_model.specs.Ancestors.{ids_of, is_held, version_events, ancestors}
use Rattle.ew_model.specs.Entries.{Entry, Inserted}
use Rattle.ew_model.specs.Tree.{Noted, act_by, entries_over, next_entry, noted_as, tree_on, tree, all_entries}
use Rattle.ew_model.specs.Texts.{visible_at, text_at, text_of}
use Rattle.ew_model.proofs.PathOrder.{id_total}
use Rattle.ew_model.proofs.SortingLaws.{all_at}
use Rattle.ew_model.proofs.AncestorLaws.{ancestors_before, among-append}
use Rattle.ew_model.proofs.SetLaws.{among_joined, among_flat, flat_among, among_filter, filter_among, among_map, map_among}
use Rattle.ew_model.proofs.VersionLaws.{version_within}
use Rattle.ew_model.proofs.PlaceLaws.{turned, ApartByPath, same_any, same_place, same_visible}
use Rattle.ew_model.proofs.TreeLaws.{entry_after}
use Rattle.ew_model.proofs.EntryLaws.{notes_of, LaidOut, none_held, points_back, tree_on_whole, ancestors_held, all_joined, all_noted, all_mapped}
use Rattle.ew_model.proofs.ApartLaws.{ApartByName, EndsWhere, entry_ends, apart_by_path, apart_filter}

pub ids_equal : IsEquivalence id_eq
ids_equal = eq_by_cmp_equiv id_total

-- the notes of events are under their ids
pub all_notes_of : (P : Id → Type 0) (b : ℕ) (history events : List Event) → AllByRecursion (λ f. P f.id) events → AllByRecursion (λ (n : Noted Id). P n.name) (flat_map (notes_of b history) events)
all_notes_of P b history [] h = tt
all_notes_of P b history (e ∷ events) h =
    all_joined (λ n. P n.name) (notes_of b history e) (flat_map (notes_of b history) events) (all_noted P e.id (entry_after b history e) h.0) (all_notes_of P b history events h.1)

-- the event's id is none of these
pub other_id : (before : List Event) (e : Event) (x : Id) → is_held (before ++ e ∷ []) x ≡ false → id_eq e.id x ≡ false
other_id before e x h =
    let apart = (or_parts (is_held before x) (is_among (e.id ∷ []) x) (sym (among-append (ids_of before) (e.id ∷ []) x) ∙ (ap (λ ids. is_among ids x) (sym (map-append (λ (f : Event). f.id) before (e ∷ []))) ∙ h))).1 in
    ids_equal.symm e.id x ∙ (or_parts (id_eq x e.id) false apart).0

pub apart_noted : (e : Event) (o : Option Entry) (notes : List (Noted Id)) → EndsWhere e.id o → AllByRecursion (λ m. id_eq e.id m.name ≡ false) notes → ApartByName notes → ApartByName (noted_as e.id o ++ notes)
apart_noted e None notes ends apart h = h
apart_noted e (Some entry) notes ends apart h = (ends, apart, h)

-- the notes of a history are apart
pub apart_notes : (b : ℕ) (history before later : List Event) → LaidOut before later → ApartByName (flat_map (notes_of b history) later)
apart_notes b history before [] h = tt
apart_notes b history before (e ∷ later) h =
    apart_noted e (entry_after b history e) (flat_map (notes_of b history) later) (entry_ends b history e)
    (all_notes_of (λ x. id_eq e.id x ≡ false) b history later (all_mapped (λ f. is_held (before ++ e ∷ []) f.id ≡ false) (λ f. id_eq e.id f.id ≡ false) later (λ f k. other_id before e f.id k) (none_held (before ++ e ∷ []) later h.2)))
    (apart_notes b history (before ++ e ∷ []) later h.2)

pub notes_apart : (history : List Event) → LaidOut [] history → ApartByName (tree_on 0 history)
notes_apart history h = subst ApartByName (sym (tree_on_whole 0 history h)) (apart_notes 0 history [] history h)

-- the entries of a version have no two characters at one path
pub version_apart : (history : List Event) (names : List Id) → LaidOut [] history → ApartByPath (entries_over id_eq 0 (tree_on 0 history) names)
version_apart history names h =
    apart_by_path (filter (λ n. list_any (id_eq n.name) names) (tree_on 0 history))
    (apart_filter (λ n. list_any (id_eq n.name) names) (tree_on 0 history) (subst ApartByName (sym (tree_on_whole 0 history h)) (apart_notes 0 history [] history h)))

pub noted_at : (name : Id) (o : Option Entry) (n : Noted Id) → Among n (noted_as name o) → (n.name ≡ name) × (o ≡ Some n.entry)
noted_at name None n m = absurd m
noted_at name (Some entry) n m = ⊎_elim (λ e. (ap (λ (k : Noted Id). k.name) e, ap (λ (k : Noted Id). Some k.entry) (sym e))) (λ k. absurd k) m

pub at_noted : (name : Id) (o : Option Entry) (n : Noted Id) → n.name ≡ name → o ≡ Some n.entry → Among n (noted_as name o)
at_noted name None n e f = let no : ⊥ = cc in absurd no
at_noted name (Some entry) n e f = let same : entry ≡ n.entry = cc in inl (λ i. record { name = e i; entry = sym same i })

-- a note of the tree is that of an event
pub note_of_tree : (history : List Event) (n : Noted Id) → LaidOut [] history → Among n (tree_on 0 history) → (e : Event) × Among e history × (n.name ≡ e.id) × (entry_after 0 history e ≡ Some n.entry)
note_of_tree history n h m =
    let from = among_flat (notes_of 0 history) history n (subst (Among n) (tree_on_whole 0 history h) m) in
    let note = noted_at from.0.id (entry_after 0 history from.0) n from.2 in
    (from.0, from.1, note.0, note.1)

pub tree_of_note : (history : List Event) (n : Noted Id) (e : Event) → LaidOut [] history → Among e history → n.name ≡ e.id → entry_after 0 history e ≡ Some n.entry → Among n (tree_on 0 history)
tree_of_note history n e h m name entry =
    subst (Among n) (sym (tree_on_whole 0 history h)) (flat_among (notes_of 0 history) history e n m (at_noted e.id (entry_after 0 history e) n name entry))

pub same_ids : (xs ys : List Event) → SameElements xs ys → SameElements (ids_of xs) (ids_of ys)
same_ids xs ys h = record {
  there = λ z m. let from = among_map (λ (f : Event). f.id) xs z m in subst (λ w. Among w (ids_of ys)) (sym from.2) (map_among (λ (f : Event). f.id) ys from.0 (h.there from.0 from.1));
  back = λ z m. let from = among_map (λ (f : Event). f.id) ys z m in subst (λ w. Among w (ids_of xs)) (sym from.2) (map_among (λ (f : Event). f.id) xs from.0 (h.back from.0 from.1));
}

-- the events of a version are the same
pub same_version : (xs ys : List Event) (named : List Id) → LaidOut [] xs → LaidOut [] ys → SameElements xs ys → SameElements (version_events xs named) (version_events ys named)
same_version xs ys named h k s = record { there = version_within xs ys named (points_back [] ys k) s.there; back = version_within ys xs named (points_back [] xs h) s.back }

pub same_ancestors : (xs ys : List Event) (named : List Id) (x : Id) → LaidOut [] xs → LaidOut [] ys → SameElements xs ys → is_among (ancestors xs named) x ≡ is_among (ancestors ys named) x
same_ancestors xs ys named x h k s =
    same_any (id_eq x) (ancestors xs named) (ancestors ys named) (same_ids (version_events xs named) (version_events ys named) (same_version xs ys named h k s))

-- both histories have one entry for each of the events
abbrev pub SameEntries : List Event → List Event → List Event → Type 0
SameEntries xs ys events = (f : Event) → Among f events → entry_after 0 ys f ≡ entry_after 0 xs f

-- the entries of a version are entries of the other history's version, where those of its events are the same
pub over_within : (xs ys : List Event) (named : List Id) → LaidOut [] xs → LaidOut [] ys → SameElements xs ys
    → ((f : Event) → Among f xs → is_among (ancestors xs named) f.id ≡ true → entry_after 0 ys f ≡ entry_after 0 xs f)
    → (w : Entry) → Among w (entries_over id_eq 0 (tree_on 0 xs) (ancestors xs named)) → Among w (entries_over id_eq 0 (tree_on 0 ys) (ancestors ys named))
over_within xs ys named h k s q w m =
    let over = among_map (λ (n : Noted Id). n.entry) (filter (λ n. is_among (ancestors xs named) n.name) (tree_on 0 xs)) w m in
    let n : Noted Id = over.0 in
    let here = among_filter (λ n. is_among (ancestors xs named) n.name) (tree_on 0 xs) n over.1 in
    let from = note_of_tree xs n h here.0 in
    let f : Event = from.0 in
    let passes : is_among (ancestors xs named) f.id ≡ true = ap (is_among (ancestors xs named)) (sym from.2) ∙ here.1 in
    let there : Among n (tree_on 0 ys) = tree_of_note ys n f k (s.there f from.1) from.2 (q f from.1 passes ∙ from.3) in
    let passes_there : is_among (ancestors ys named) n.name ≡ true = sym (same_ancestors xs ys named n.name h k s) ∙ here.1 in
    subst (λ v. Among v (entries_over id_eq 0 (tree_on 0 ys) (ancestors ys named))) (sym over.2)
    (map_among (λ (n : Noted Id). n.entry) (filter (λ n. is_among (ancestors ys named) n.name) (tree_on 0 ys)) n (filter_among (λ n. is_among (ancestors ys named) n.name) (tree_on 0 ys) n there passes_there))

pub same_over : (xs ys : List Event) (named : List Id) → LaidOut [] xs → LaidOut [] ys → SameElements xs ys
    → ((f : Event) → Among f xs → is_among (ancestors xs named) f.id ≡ true → entry_after 0 ys f ≡ entry_after 0 xs f)
    → SameElements (entries_over id_eq 0 (tree_on 0 xs) (ancestors xs named)) (entries_over id_eq 0 (tree_on 0 ys) (ancestors ys named))
same_over xs ys named h k s q = record {
  there = over_within xs ys named h k s q;
  back = over_within ys xs named k h (turned xs ys s) (λ f m e. sym (q f (s.back f m) (same_ancestors xs ys named f.id h k s ∙ e)));
}

-- what is an ancestor of the next event's parents stands before it
pub ancestor_before : (history before : List Event) (e : Event) (later : List Event) → before ++ e ∷ later ≡ history → LaidOut before (e ∷ later) → (f : Event) → Among f history → is_among (ancestors history e.parents) f.id ≡ true → Among f before
ancestor_before history before e later eq h f m a =
    let ancestor : is_among (ancestors before e.parents) f.id ≡ true =
    ap (λ ids. is_among ids f.id) (sym (ancestors_before before (e ∷ later) e.parents h.1)) ∙ (ap (λ whole. is_among (ancestors whole e.parents) f.id) eq ∙ a) in
    ⊎_elim
    (λ k. k)
    (λ k. absurd (false≢true (sym (all_at (λ g. is_held before g.id ≡ false) (e ∷ later) f (none_held before (e ∷ later) h) k) ∙ ancestors_held before e.parents f.id ancestor)))
    (among_joined before (e ∷ later) f (subst (Among f) (sym eq) m))

-- the next event has one entry in both, where those before it have
pub same_next : (xs ys before : List Event) (e : Event) (later : List Event) → LaidOut [] xs → LaidOut [] ys → SameElements xs ys → before ++ e ∷ later ≡ xs → LaidOut before (e ∷ later) → SameEntries xs ys before → entry_after 0 ys e ≡ entry_after 0 xs e
unfolding next_entry
same_next xs ys before e later h k s eq laid q =
    sym (same_place (act_by e.id e.op) (entries_over id_eq 0 (tree_on 0 xs) (ancestors xs e.parents)) (entries_over id_eq 0 (tree_on 0 ys) (ancestors ys e.parents))
    (version_apart xs (ancestors xs e.parents) h) (version_apart ys (ancestors ys e.parents) k)
    (same_over xs ys e.parents h k s (λ f m a. q f (ancestor_before xs before e later eq laid f m a))))

pub same_entries_after : (xs ys before later : List Event) → LaidOut [] xs → LaidOut [] ys → SameElements xs ys → before ++ later ≡ xs → LaidOut before later → SameEntries xs ys before → SameEntries xs ys xs
same_entries_after xs ys before [] h k s eq laid q = λ f m. q f (subst (Among f) (sym eq ∙ append-nil before) m)
same_entries_after xs ys before (e ∷ later) h k s eq laid q =
    same_entries_after xs ys (before ++ e ∷ []) later h k s (append_assoc before (e ∷ []) later ∙ eq) laid.2 (λ f m.
    ⊎_elim (λ j. q f j) (λ j. ⊎_elim (λ same. subst (λ g. entry_after 0 ys g ≡ entry_after 0 xs g) (sym same) (same_next xs ys before e later h k s eq laid q)) (λ no. absurd no) j) (among_joined before (e ∷ []) f m))

-- Histories with the same events have one entry for each event ..
pub same_entries : (xs ys : List Event) → LaidOut [] xs → LaidOut [] ys → SameElements xs ys → SameEntries xs ys xs
same_entries xs ys h k s = same_entries_after xs ys [] xs h k s refl h (λ f m. absurd m)

-- .. and the same visible characters at every version,
pub same_visible_at : (xs ys : List Event) (version : List Id) → LaidOut [] xs → LaidOut [] ys → SameElements xs ys → visible_at xs version ≡ visible_at ys version
unfolding visible_at tree
same_visible_at xs ys version h k s =
    same_visible (entries_over id_eq 0 (tree_on 0 xs) (ancestors xs version)) (entries_over id_eq 0 (tree_on 0 ys) (ancestors ys version))
    (version_apart xs (ancestors xs version) h) (version_apart ys (ancestors ys version) k)
    (same_over xs ys version h k s (λ f m a. same_entries xs ys h k s f m))

-- so the same text.
pub same_text_at : (xs ys : List Event) (version : List Id) → LaidOut [] xs → LaidOut [] ys → SameElements xs ys → text_at xs version ≡ text_at ys version
unfolding text_at
same_text_at xs ys version h k s = ap (map (λ (x : Inserted). x.ch)) (same_visible_at xs ys version h k s)

-- The trees have the same notes.
pub same_tree : (xs ys : List Event) → LaidOut [] xs → LaidOut [] ys → SameElements xs ys → SameElements (tree_on 0 xs) (tree_on 0 ys)
same_tree xs ys h k s = record {
  there = λ n m. let from = note_of_tree xs n h m in tree_of_note ys n from.0 k (s.there from.0 from.1) from.2 (same_entries xs ys h k s from.0 from.1 ∙ from.3);
  back = λ n m. let from = note_of_tree ys n k m in tree_of_note xs n from.0 h (s.back from.0 from.1) from.2 (same_entries ys xs k h (turned xs ys s) from.0 from.1 ∙ from.3);
}

pub same_mapped : {X Y : Type 0} (f : X → Y) (xs ys : List X) → SameElements xs ys → SameElements (map f xs) (map f ys)
same_mapped f xs ys h = record {
  there = λ z m. let from = among_map f xs z m in subst (λ w. Among w (map f ys)) (sym from.2) (map_among f ys from.0 (h.there from.0 from.1));
  back = λ z m. let from = among_map f ys z m in subst (λ w. Among w (map f xs)) (sym from.2) (map_among f xs from.0 (h.back from.0 from.1));
}

pub tree_apart : (history : List Event) → LaidOut [] history → ApartByPath (all_entries 0 (tree_on 0 history))
tree_apart history h = apart_by_path (tree_on 0 history) (subst ApartByName (sym (tree_on_whole 0 history h)) (apart_notes 0 history [] history h))

-- The whole texts are equal.
pub same_text_of : (xs ys : List Event) → LaidOut [] xs → LaidOut [] ys → SameElements xs ys → text_of xs ≡ text_of ys
unfolding text_of tree
same_text_of xs ys h k s =
    ap (map (λ (x : Inserted). x.ch)) (same_visible (all_entries 0 (tree_on 0 xs)) (all_entries 0 (tree_on 0 ys)) (tree_apart xs h) (tree_apart ys k)
    (same_mapped (λ (n : Noted Id). n.entry) (tree_on 0 xs) (tree_on 0 ys) (same_tree xs ys h k s)))
