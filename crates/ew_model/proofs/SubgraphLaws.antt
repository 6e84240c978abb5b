-- The events of a version, as a history of their own, have the entries and the text that the version has.
use Rattle.std.proofs.Common.{◌≡◌, Bool, true, false, cond, ◌||◌, inl, ⊎_elim, List, [], ◌∷◌, ◌++◌, map, filter, refl, sym, ap, ◌∙◌, subst, append_assoc, append-nil}
use Rattle.std.specs.List.{AllByRecursion}
use Rattle.std.proofs.lemmas.List.{map-append}
use Rattle.std.proofs.lemmas.Bool.{or_cases}
use Rattle.ew_model.specs.declared.id.Id.{Id}
use Rattle.ew_model.specs.declared.event.Event.{Event}
use Rattle.ew_model.specs.Sets.{Among, SameElements}
use Rattle.ew_model.specs.Ids.{id_eq, is_among}
use Rattle.ew_model.specs.Ancestors.{ids_of, is_held, is_parent, version_events, ancestors}
use Rattle.ew_model.specs.Entries.{Inserted, Entry, visible, insertions}
use Rattle.ew_model.specs.Tree.{Noted, act_by, entries_over, next_entry, tree_on, tree}
use Rattle.ew_model.specs.Texts.{visible_at, text_at, text_of}
use Rattle.ew_model.proofs.GraphVersions as versions
use Rattle.ew_model.proofs.GraphOrder as graph
use Rattle.ew_model.proofs.SetLaws.{among_joined, joined_right, among_filter, filter_among, among_map, map_among, kept_more}
use Rattle.ew_model.proofs.SortingLaws.{all_at, all_from}
use Rattle.ew_model.proofs.VersionLaws.{kept_cases, any_from, found_by, PointsBack, version_named, version_parent, version_held}
use Rattle.ew_model.proofs.PlaceLaws.{same_any, same_place, same_visible, among_insertions, insertion_among}
use Rattle.ew_model.proofs.TreeLaws.{entry_after}
use Rattle.ew_model.proofs.EntryLaws.{LaidOut, points_back, not_held_before}
use Rattle.ew_model.proofs.AncestorLaws.{among-append}
use Rattle.ew_model.proofs.EqualSets.{other_id, same_ids, note_of_tree, tree_of_note, version_apart, ancestor_before}
use Rattle.ew_model.proofs.TextLaws.{ids_equal}
use Rattle.ew_model.proofs.LocalEdit.{KnowsAll, all_known, tree_has_prefixes}
use Rattle.ew_model.proofs.GapLaws.{HasPrefixes}
use Rattle.ew_model.specs.Entries.Entry.{Insertion}

-- what is taken of a history is taken of another that has these events
pub taken_within : (history other : List Event) (named : List Id) → PointsBack other → ((x : Event) → Among x (version_events history named) → Among x other) → (x : Event) → Among x (version_events history named) → Among x (version_events other named)
taken_within [] other named h f x m = absurd m
taken_within (y ∷ later) other named h f x m =
    let taken = version_events later named in
    let test = is_among named y.id || is_parent taken y.id in
    let ih : (z : Event) → Among z taken → Among z (version_events other named) = taken_within later other named h (λ z k. f z (kept_more test y z taken k)) in
    ⊎_elim
    (λ xy. subst (λ z. Among z (version_events other named)) (sym xy.0)
    (let there : Among y other = f y (subst (λ z. Among z (version_events (y ∷ later) named)) xy.0 m) in
    ⊎_elim
    (λ e. version_named other named y there e)
    (λ e. let child = found_by (λ g. is_among g.parents y.id) taken e in version_parent other named y child.0 h (ih child.0 child.1) there child.2)
    (or_cases (is_among named y.id) (is_parent taken y.id) xy.1)))
    (λ k. ih x k)
    (kept_cases test y x taken m)

-- events with one id are one
pub one_event : (before history : List Event) (f g : Event) → LaidOut before history → Among f history → Among g history → id_eq f.id g.id ≡ true → f ≡ g
one_event before history f g h mf mg e = graph.one_event (λ (e : Event). e.id) (λ (e : Event). e.parents) id_eq ids_equal before history f g h mf mg e

-- what has the named events and the parents of its events has all that is taken
pub closed_taken : (T : Event → Type 0) (history : List Event) (named : List Id) → ((x : Event) → Among x history → is_among named x.id ≡ true → T x) → ((f x : Event) → T f → Among x history → is_among f.parents x.id ≡ true → T x) → (x : Event) → Among x (version_events history named) → T x
closed_taken T history named start close x m = versions.taken_within (λ (e : Event). e.id) (λ (e : Event). e.parents) id_eq T history named start close x m

-- an event whose id is an ancestor's is taken
pub taken_by_id : (history : List Event) (named : List Id) (f : Event) → LaidOut [] history → Among f history → is_among (ancestors history named) f.id ≡ true → Among f (version_events history named)
taken_by_id history named f h m e =
    let found = found_by (id_eq f.id) (ancestors history named) e in
    let g = among_map (λ (x : Event). x.id) (version_events history named) found.0 found.1 in
    let same : f ≡ g.0 = one_event [] history f g.0 h m (version_held history named g.0 g.1) (subst (λ x. id_eq f.id x ≡ true) g.2 found.2) in
    subst (λ x. Among x (version_events history named)) (sym same) g.1

-- a part of a history in its order is laid out as the history is
pub held_less : (before less : List Event) (y : Event) → ((x : Id) → is_held before x ≡ false → is_held less x ≡ false) → (x : Id) → is_held (before ++ y ∷ []) x ≡ false → is_held (less ++ y ∷ []) x ≡ false
held_less before less y f x h =
    ap (λ ids. is_among ids x) (map-append (λ (e : Event). e.id) less (y ∷ [])) ∙ among-append (ids_of less) (y.id ∷ []) x
    ∙ (λ i. f x (not_held_before before y x h) i || ((ids_equal.symm x y.id ∙ other_id before y x h) i || false))

pub laid_kept : (b : Bool) (before less : List Event) (y : Event) (taken : List Event) → ((x : Id) → is_held before x ≡ false → is_held less x ≡ false) → is_held before y.id ≡ false → AllByRecursion (λ f. is_among y.parents f.id ≡ false) (y ∷ taken) → LaidOut (less ++ y ∷ []) taken → LaidOut less taken → LaidOut less (cond b (y ∷ taken) taken)
laid_kept true before less y taken f new parents h k = (f y.id new, parents, h)
laid_kept false before less y taken f new parents h k = k

pub laid_taken : (before less history : List Event) (named : List Id) → ((x : Id) → is_held before x ≡ false → is_held less x ≡ false) → LaidOut before history → LaidOut less (version_events history named)
laid_taken before less [] named f h = tt
laid_taken before less (y ∷ later) named f h =
    let taken = version_events later named in
    laid_kept (is_among named y.id || is_parent taken y.id) before less y taken f h.0
    (h.1.0, all_from (λ g. is_among y.parents g.id ≡ false) taken (λ g m. all_at (λ g. is_among y.parents g.id ≡ false) later g h.1.1 (version_held later named g m)))
    (laid_taken (before ++ y ∷ []) (less ++ y ∷ []) later named (held_less before less y f) h.2)
    (laid_taken (before ++ y ∷ []) less later named (λ x k. f x (not_held_before before y x k)) h.2)

-- the events of a version, as a history
pub version_laid_out : (history : List Event) (named : List Id) → LaidOut [] history → LaidOut [] (version_events history named)
version_laid_out history named h = laid_taken [] [] history named (λ x k. k) h

-- a history xs is a part of ys, with the ancestors of its own events
pub record IsPart (xs ys : List Event) : Type 0 where
  pub laid : LaidOut [] xs
  pub whole : LaidOut [] ys
  pub there : (f : Event) → Among f xs → Among f ys

-- the ids of a version are those of the other's, where both have its events
pub alike : (xs ys : List Event) (named : List Id) (z : Id) → IsPart xs ys → ((f : Event) → Among f (version_events ys named) → Among f xs) → is_among (ancestors xs named) z ≡ is_among (ancestors ys named) z
alike xs ys named z p back =
    same_any (id_eq z) (ancestors xs named) (ancestors ys named) (same_ids (version_events xs named) (version_events ys named)
    (record {
      there = taken_within xs ys named (points_back [] ys p.whole) (λ f m. p.there f (version_held xs named f m));
      back = taken_within ys xs named (points_back [] xs p.laid) back;
    }))

-- the entries of a version are entries of the other's version, where its events are there with the same entries
pub over_part : (xs ys : List Event) (named : List Id) → LaidOut [] xs → LaidOut [] ys → ((z : Id) → is_among (ancestors xs named) z ≡ is_among (ancestors ys named) z)
    → ((f : Event) → Among f xs → is_among (ancestors xs named) f.id ≡ true → Among f ys × (entry_after 0 ys f ≡ entry_after 0 xs f))
    → (w : Entry) → Among w (entries_over id_eq 0 (tree_on 0 xs) (ancestors xs named)) → Among w (entries_over id_eq 0 (tree_on 0 ys) (ancestors ys named))
over_part xs ys named h k same q w m =
    let over = among_map (λ (n : Noted Id). n.entry) (filter (λ n. is_among (ancestors xs named) n.name) (tree_on 0 xs)) w m in
    let n : Noted Id = over.0 in
    let here = among_filter (λ n. is_among (ancestors xs named) n.name) (tree_on 0 xs) n over.1 in
    let from = note_of_tree xs n h here.0 in
    let f : Event = from.0 in
    let passes : is_among (ancestors xs named) f.id ≡ true = ap (is_among (ancestors xs named)) (sym from.2) ∙ here.1 in
    let other = q f from.1 passes in
    let there : Among n (tree_on 0 ys) = tree_of_note ys n f k other.0 from.2 (other.1 ∙ from.3) in
    subst (λ v. Among v (entries_over id_eq 0 (tree_on 0 ys) (ancestors ys named))) (sym over.2)
    (map_among (λ (n : Noted Id). n.entry) (filter (λ n. is_among (ancestors ys named) n.name) (tree_on 0 ys)) n (filter_among (λ n. is_among (ancestors ys named) n.name) (tree_on 0 ys) n there (sym (same n.name) ∙ here.1)))

pub part_over : (xs ys : List Event) (named : List Id) → IsPart xs ys → ((f : Event) → Among f (version_events ys named) → Among f xs) → ((f : Event) → Among f xs → is_among (ancestors xs named) f.id ≡ true → entry_after 0 ys f ≡ entry_after 0 xs f)
    → SameElements (entries_over id_eq 0 (tree_on 0 xs) (ancestors xs named)) (entries_over id_eq 0 (tree_on 0 ys) (ancestors ys named))
part_over xs ys named p back q =
    let same : (z : Id) → is_among (ancestors xs named) z ≡ is_among (ancestors ys named) z = λ z. alike xs ys named z p back in
    record {
      there = over_part xs ys named p.laid p.whole same (λ f m e. (p.there f m, q f m e));
      back = over_part ys xs named p.whole p.laid (λ z. sym (same z)) (λ f m e.
          let mine : Among f xs = back f (taken_by_id ys named f p.whole m e) in
          (mine, sym (q f mine (same f.id ∙ e))));
    }

-- each event of a part that has its events' ancestors has its entry of the whole
pub part_entries : (xs ys before later : List Event) → IsPart xs ys → ((e f : Event) → Among e xs → Among f (version_events ys e.parents) → Among f xs) → before ++ later ≡ xs → LaidOut before later → ((f : Event) → Among f before → entry_after 0 ys f ≡ entry_after 0 xs f) → (f : Event) → Among f xs → entry_after 0 ys f ≡ entry_after 0 xs f
unfolding next_entry
part_entries xs ys before [] p closed eq laid q = λ f m. q f (subst (Among f) (sym eq ∙ append-nil before) m)
part_entries xs ys before (e ∷ later) p closed eq laid q =
    let me : Among e xs = subst (Among e) eq (joined_right before (e ∷ later) e (inl refl)) in
    let mine : entry_after 0 ys e ≡ entry_after 0 xs e =
    sym (same_place (act_by e.id e.op) (entries_over id_eq 0 (tree_on 0 xs) (ancestors xs e.parents)) (entries_over id_eq 0 (tree_on 0 ys) (ancestors ys e.parents))
    (version_apart xs (ancestors xs e.parents) p.laid) (version_apart ys (ancestors ys e.parents) p.whole)
    (part_over xs ys e.parents p (λ f m. closed e f me m) (λ f m a. q f (ancestor_before xs before e later eq laid f m a)))) in
    part_entries xs ys (before ++ e ∷ []) later p closed (append_assoc before (e ∷ []) later ∙ eq) laid.2 (λ f m.
    ⊎_elim (λ j. q f j) (λ j. ⊎_elim (λ same. subst (λ g. entry_after 0 ys g ≡ entry_after 0 xs g) (sym same) mine) (λ no. absurd no) j) (among_joined before (e ∷ []) f m))

pub version_is_part : (history : List Event) (named : List Id) → LaidOut [] history → IsPart (version_events history named) history
version_is_part history named h = record { laid = version_laid_out history named h; whole = h; there = version_held history named }

-- a version has the ancestors of its events
pub version_closed : (history : List Event) (named : List Id) → LaidOut [] history → (e f : Event) → Among e (version_events history named) → Among f (version_events history e.parents) → Among f (version_events history named)
version_closed history named h e f me mf =
    closed_taken (λ x. Among x (version_events history named)) history e.parents
    (λ x m a. version_parent history named x e (points_back [] history h) me m a)
    (λ g x mg m a. version_parent history named x g (points_back [] history h) mg m a)
    f mf

-- The text of a version is that of its events as a history.
pub subgraph_text : (history : List Event) (named : List Id) → LaidOut [] history → text_at history named ≡ text_of (version_events history named)
unfolding text_at text_of visible_at tree
subgraph_text history named h =
    let part = version_events history named in
    let p = version_is_part history named h in
    let entries : (f : Event) → Among f part → entry_after 0 history f ≡ entry_after 0 part f = part_entries part history [] part p (version_closed history named h) refl p.laid (λ f m. absurd m) in
    let same = part_over part history named p (λ f m. m) (λ f m a. entries f m) in
    let all : KnowsAll part (ancestors part named) = all_from (λ f. is_among (ancestors part named) f.id ≡ true) part (λ f m.
    any_from (id_eq f.id) (ancestors part named) f.id (map_among (λ (x : Event). x.id) (version_events part named) f (taken_within history part named (points_back [] part p.laid) (λ g k. k) f m)) (ids_equal.refl f.id)) in
    ap (map (λ (x : Inserted). x.ch))
    (sym (same_visible (entries_over id_eq 0 (tree_on 0 part) (ancestors part named)) (entries_over id_eq 0 (tree_on 0 history) (ancestors history named))
    (version_apart part (ancestors part named) p.laid) (version_apart history (ancestors history named) h) same)
    ∙ ap visible (all_known part (ancestors part named) p.laid all))

pub prefixes_along : (xs ys : List Entry) → SameElements xs ys → HasPrefixes (insertions xs) → HasPrefixes (insertions ys)
prefixes_along xs ys s h z m front t rest e =
    let y = h z (insertion_among xs z (s.back (Insertion z) (among_insertions ys z m))) front t rest e in
    (y.0, insertion_among ys y.0 (s.there (Insertion y.0) (among_insertions xs y.0 y.1)), y.2)

-- A version has the parents of its nodes.
pub version_prefixes : (history : List Event) (named : List Id) → LaidOut [] history → HasPrefixes (insertions (entries_over id_eq 0 (tree_on 0 history) (ancestors history named)))
version_prefixes history named h =
    let part = version_events history named in
    let p = version_is_part history named h in
    let entries : (f : Event) → Among f part → entry_after 0 history f ≡ entry_after 0 part f = part_entries part history [] part p (version_closed history named h) refl p.laid (λ f m. absurd m) in
    let all : KnowsAll part (ancestors part named) = all_from (λ f. is_among (ancestors part named) f.id ≡ true) part (λ f m.
    any_from (id_eq f.id) (ancestors part named) f.id (map_among (λ (x : Event). x.id) (version_events part named) f (taken_within history part named (points_back [] part p.laid) (λ g k. k) f m)) (ids_equal.refl f.id)) in
    prefixes_along (entries_over id_eq 0 (tree_on 0 part) (ancestors part named)) (entries_over id_eq 0 (tree_on 0 history) (ancestors history named)) (part_over part history named p (λ f m. m) (λ f m a. entries f m))
    (subst (λ es. HasPrefixes (insertions es)) (sym (all_known part (ancestors part named) p.laid all)) (tree_has_prefixes part))
