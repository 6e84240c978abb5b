-- The text of a history is what its operations make of the empty text.
use Rattle.std.proofs.Common.{◌≡◌, ℕ, zero, suc, true, false, inl, inr, ⊎_elim, List, [], ◌∷◌, ◌++◌, map, Option, Some, None, option_map, slice_get, refl, sym, ap, ◌∙◌, subst, append-nil, append_assoc}
use Rattle.std.specs.Cmp.{eq_by_cmp_equiv, IsEquivalence}
use Rattle.std.proofs.lemmas.Bool.{false≢true, false_from_ne_true}
use Rattle.std.proofs.lemmas.List.{map-append}
use Rattle.std.proofs.lemmas.Map.Steps.{list_any_congr}
use Rattle.ew_model.specs.declared.id.Id.{Id}
use Rattle.ew_model.specs.declared.event.Op.{Op}
use Rattle.ew_model.specs.declared.event.Op.TheVariants as op
use Rattle.ew_model.specs.declared.event.Event.{Event}
use Rattle.ew_model.specs.Ids.{id_eq}
use Rattle.ew_model.specs.Sets.{Among}
use Rattle.ew_model.specs.Ancestors.{ids_of, is_held}
use Rattle.ew_model.specs.Paths.{Step}
use Rattle.ew_model.specs.Entries.{Inserted, Entry, insertions, deletes, is_deleted, order, visible}
use Rattle.ew_model.specs.Tree.{Noted, act_by, all_entries, entries_over, next_entry, noted_as, applied, applied_after, tree_of, tree_on, tree}
use Rattle.ew_model.specs.Places.{Act, new_path, path_before, place}
use Rattle.ew_model.specs.Texts.{text_of}
use Rattle.ew_model.specs.Entries.Entry.{Insertion, Deletion, Mark}
use Rattle.ew_model.specs.Places.Act.{InsertAs, DeleteAt, MarkAs}
use Rattle.ew_model.specs.Operations.{operation_of, next_operation, operations_after, operations_of, operations, changed_by, changed_by_all}
use Rattle.ew_model.proofs.PathOrder.{id_total}
use Rattle.ew_model.proofs.SetLaws.{among_map, map_among}
use Rattle.ew_model.proofs.SortingLaws.{all_at}
use Rattle.ew_model.proofs.VersionLaws.{any_from, found_by}
use Rattle.ew_model.proofs.PlaceLaws.{ApartByPath, among_insertions}
use Rattle.ew_model.proofs.PrefixLaws.{over_insertions, ordered_among, visible_among}
use Rattle.ew_model.proofs.TreeLaws.{entry_after, tree_on-push}
use Rattle.ew_model.proofs.GraphOrder.{laid_front}
use Rattle.ew_model.proofs.EntryLaws.{LaidOut}
use Rattle.ew_model.proofs.ApartLaws.{ApartByName}
use Rattle.ew_model.proofs.EqualSets.{note_of_tree, notes_apart, tree_apart}
use Rattle.ew_model.proofs.TextLaws.{IdsApart, MayFollow, text-entry}

-- an inserted character has the id of its event
abbrev IdIs : Id → Entry → Type 0
IdIs x (Insertion y) = y.id ≡ x
IdIs x (Deletion target) = Unit {0}
IdIs x Mark = Unit {0}

abbrev IdWhere : Id → Option Entry → Type 0
IdWhere x None = Unit {0}
IdWhere x (Some entry) = IdIs x entry

id_mapped : {X : Type 0} (x : Id) (f : X → Entry) (o : Option X) → ((p : X) → IdIs x (f p)) → IdWhere x (option_map f o)
id_mapped x f None h = tt
id_mapped x f (Some p) h = h p

place_id : (x : Id) (o : Op) (entries : List Entry) → IdWhere x (place (act_by x o) entries)
unfolding place
place_id x (op.Ins at ch) entries = id_mapped x (λ p. Insertion (record { id = x; path = new_path (order entries) p x; ch = ch })) (path_before (visible entries) at) (λ p. refl)
place_id x (op.Del at) entries = id_mapped x (λ (target : Inserted). Deletion target.id) (slice_get (visible entries) at) (λ t. tt)
place_id x (op.Mark label) entries = tt

-- a deletion targets a character that is there
abbrev TargetWhere : List Entry → Option Entry → Type 0
TargetWhere entries None = Unit {0}
TargetWhere entries (Some (Insertion y)) = Unit {0}
TargetWhere entries (Some (Deletion t)) = (y : Inserted) × Among y (insertions entries) × (y.id ≡ t)
TargetWhere entries (Some Mark) = Unit {0}

pub got : {X : Type 0} (xs : List X) (i : ℕ) (x : X) → slice_get xs i ≡ Some x → Among x xs
got [] i x e = let no : ⊥ = cc in absurd no
got (y ∷ xs) zero x e = let same : x ≡ y = cc in inl same
got (y ∷ xs) (suc i) x e = inr (got xs i x e)

target_insertion : (x : Id) (entries : List Entry) (ch : ℕ) (o : Option (List Step)) → TargetWhere entries (option_map (λ p. Insertion (record { id = x; path = new_path (order entries) p x; ch = ch })) o)
target_insertion x entries ch None = tt
target_insertion x entries ch (Some p) = tt

target_deletion : (entries : List Entry) (o : Option Inserted) → ((y : Inserted) → o ≡ Some y → Among y (insertions entries)) → TargetWhere entries (option_map (λ (target : Inserted). Deletion target.id) o)
target_deletion entries None h = tt
target_deletion entries (Some y) h = (y, h y refl, refl)

place_target : (a : Act) (entries : List Entry) → TargetWhere entries (place a entries)
unfolding place
place_target (InsertAs x at ch) entries = target_insertion x entries ch (path_before (visible entries) at)
place_target (DeleteAt at) entries =
    target_deletion entries (slice_get (visible entries) at) (λ y e. ordered_among entries y (visible_among entries y (got (visible entries) at y e)))
place_target MarkAs entries = tt

-- the note of an event of the history: its entry's id is its name, and its target is in the tree
noted_id : (history : List Event) (n : Noted Id) → LaidOut [] history → Among n (tree_on 0 history) → IdIs n.name n.entry
unfolding next_entry
noted_id history n h m =
    let from = note_of_tree history n h m in
    let id : IdWhere from.0.id (Some n.entry) = subst (IdWhere from.0.id) from.3 (place_id from.0.id from.0.op (entries_over id_eq 0 (tree_on 0 history) (applied history from.0).over)) in
    subst (λ x. IdIs x n.entry) (sym from.2) id

noted_target : (history : List Event) (n : Noted Id) → LaidOut [] history → Among n (tree_on 0 history) → TargetWhere (all_entries 0 (tree_on 0 history)) (Some n.entry)
unfolding next_entry
noted_target history n h m =
    let from = note_of_tree history n h m in
    let over = (applied history from.0).over in
    let entries = entries_over id_eq 0 (tree_on 0 history) over in
    target_within entries (all_entries 0 (tree_on 0 history)) n.entry (over_insertions id_eq 0 (tree_on 0 history) over) (subst (TargetWhere entries) from.3 (place_target (act_by from.0.id from.0.op) entries))
  where
    target_within : (xs ys : List Entry) (entry : Entry) → ((z : Inserted) → Among z (insertions xs) → Among z (insertions ys)) → TargetWhere xs (Some entry) → TargetWhere ys (Some entry)
    target_within xs ys (Insertion y) f h = tt
    target_within xs ys (Deletion t) f h = (h.0, f h.0 h.1, h.2)
    target_within xs ys Mark f h = tt

ids_equal : IsEquivalence id_eq
ids_equal = eq_by_cmp_equiv id_total

-- notes under one name are one note
same_note : (notes : List (Noted Id)) (n m : Noted Id) → ApartByName notes → Among n notes → Among m notes → id_eq n.name m.name ≡ true → n ≡ m
same_note [] n m h mn mm e = absurd mn
same_note (k ∷ notes) n m h mn mm e =
    ⊎_elim
    (λ nk. ⊎_elim
    (λ mk. nk ∙ sym mk)
    (λ j. absurd (false≢true (sym (all_at (λ z. id_eq k.name z.name ≡ false) notes m h.1 j) ∙ (ap (λ (z : Noted Id). id_eq z.name m.name) (sym nk) ∙ e))))
    mm)
    (λ i. ⊎_elim
    (λ mk. absurd (false≢true (sym (all_at (λ z. id_eq k.name z.name ≡ false) notes n h.1 i) ∙ (ids_equal.symm k.name n.name ∙ (ap (λ (z : Noted Id). id_eq n.name z.name) (sym mk) ∙ e)))))
    (λ j. same_note notes n m h.2 i j e)
    mm)
    mn

-- two characters of the tree with one id are one
pub tree_ids_apart : (history : List Event) → LaidOut [] history → IdsApart (insertions (all_entries 0 (tree_on 0 history)))
tree_ids_apart history h x y mx my e =
    let notes = tree_on 0 history in
    let nx = among_map (λ (n : Noted Id). n.entry) notes (Insertion x) (among_insertions (all_entries 0 notes) x mx) in
    let ny = among_map (λ (n : Noted Id). n.entry) notes (Insertion y) (among_insertions (all_entries 0 notes) y my) in
    let idx : x.id ≡ nx.0.name = subst (IdIs nx.0.name) (sym nx.2) (noted_id history nx.0 h nx.1) in
    let idy : y.id ≡ ny.0.name = subst (IdIs ny.0.name) (sym ny.2) (noted_id history ny.0 h ny.1) in
    let same : nx.0 ≡ ny.0 = same_note notes nx.0 ny.0 (notes_apart history h) nx.1 ny.1 (sym (λ i. id_eq (idx i) (idy i)) ∙ e) in
    let entries : Insertion x ≡ Insertion y = nx.2 ∙ (ap (λ (n : Noted Id). n.entry) same ∙ sym ny.2) in
    cc

-- the id of a visible character is held
pub visible_held : (history : List Event) (z : Inserted) → LaidOut [] history → Among z (visible (all_entries 0 (tree_on 0 history))) → is_held history z.id ≡ true
visible_held history z h m =
    let entries = all_entries 0 (tree_on 0 history) in
    let from = among_map (λ (n : Noted Id). n.entry) (tree_on 0 history) (Insertion z) (among_insertions entries z (ordered_among entries z (visible_among entries z m))) in
    let id : z.id ≡ from.0.name = subst (IdIs from.0.name) (sym from.2) (noted_id history from.0 h from.1) in
    let event = note_of_tree history from.0 h from.1 in
    let same : z.id ≡ event.0.id = id ∙ event.2 in
    any_from (id_eq z.id) (ids_of history) event.0.id (map_among (λ (f : Event). f.id) history event.0 event.1) (ap (id_eq z.id) (sym same) ∙ ids_equal.refl z.id)

-- an id that isn't held isn't deleted
pub not_deleted : (history : List Event) (x : Id) → LaidOut [] history → is_held history x ≡ false → is_deleted (all_entries 0 (tree_on 0 history)) x ≡ false
not_deleted history x h new =
    false_from_ne_true (is_deleted (all_entries 0 (tree_on 0 history)) x) (λ e.
    let found = found_by (deletes x) (all_entries 0 (tree_on 0 history)) e in
    false≢true (sym new ∙ deleted_held found.0 found.1 found.2))
  where
    deleted_held : (entry : Entry) → Among entry (all_entries 0 (tree_on 0 history)) → deletes x entry ≡ true → is_held history x ≡ true
    deleted_held (Insertion y) m e = absurd (false≢true e)
    deleted_held Mark m e = absurd (false≢true e)
    deleted_held (Deletion t) m e =
        let note = among_map (λ (n : Noted Id). n.entry) (tree_on 0 history) (Deletion t) m in
        let target : TargetWhere (all_entries 0 (tree_on 0 history)) (Some (Deletion t)) = subst (λ w. TargetWhere (all_entries 0 (tree_on 0 history)) (Some w)) (sym note.2) (noted_target history note.0 h note.1) in
        let from = among_map (λ (n : Noted Id). n.entry) (tree_on 0 history) (Insertion target.0) (among_insertions (all_entries 0 (tree_on 0 history)) target.0 target.1) in
        let id : target.0.id ≡ from.0.name = subst (IdIs from.0.name) (sym from.2) (noted_id history from.0 h from.1) in
        let event = note_of_tree history from.0 h from.1 in
        let same : event.0.id ≡ t = sym event.2 ∙ (sym id ∙ target.2) in
        let held : is_held history t ≡ true = any_from (id_eq t) (ids_of history) event.0.id (map_among (λ (f : Event). f.id) history event.0 event.1) (ap (id_eq t) same ∙ ids_equal.refl t) in
        sym (list_any_congr ids_equal t x (ids_of history) e) ∙ held

-- a front of a history that is laid out is so too
pub laid_part : (before xs ys : List Event) → LaidOut before (xs ++ ys) → LaidOut before xs
laid_part before xs ys h = laid_front (λ (e : Event). e.id) (λ (e : Event). e.parents) id_eq before xs ys h

pub laid_last : (before xs : List Event) (e : Event) → LaidOut before (xs ++ e ∷ []) → is_held (before ++ xs) e.id ≡ false
laid_last before [] e h = ap (λ hs. is_held hs e.id) (append-nil before) ∙ h.0
laid_last before (x ∷ xs) e h = ap (λ hs. is_held hs e.id) (sym (append_assoc before (x ∷ []) xs)) ∙ laid_last (before ++ x ∷ []) xs e h.2

text-noted : (history : List Event) (e : Event) (o : Option Entry) → LaidOut [] (history ++ e ∷ []) → entry_after 0 history e ≡ o
    → map (λ x. x.ch) (visible (all_entries 0 (tree_on 0 history ++ noted_as e.id o))) ≡ changed_by (operation_of (visible (all_entries 0 (tree_on 0 history))) o) (map (λ x. x.ch) (visible (all_entries 0 (tree_on 0 history))))
unfolding next_entry
text-noted history e None h is = ap (λ ns. map (λ (x : Inserted). x.ch) (visible (all_entries 0 ns))) (append-nil (tree_on 0 history))
text-noted history e (Some entry) h is =
    let notes = tree_on 0 history in
    let grown : tree_on 0 (history ++ e ∷ []) ≡ notes ++ record { name = e.id; entry = entry } ∷ [] = tree_on-push 0 history e ∙ ap (λ o. notes ++ noted_as e.id o) is in
    let entries : all_entries 0 (notes ++ record { name = e.id; entry = entry } ∷ []) ≡ all_entries 0 notes ++ entry ∷ [] = map-append (λ (n : Noted Id). n.entry) notes (record { name = e.id; entry = entry } ∷ []) in
    ap (λ es. map (λ (x : Inserted). x.ch) (visible es)) entries
    ∙ text-entry (all_entries 0 notes) entry (tree_apart history (laid_part [] history (e ∷ []) h)) (subst ApartByPath (ap (all_entries 0) grown ∙ entries) (tree_apart (history ++ e ∷ []) h))
    (may_follow entry is)
  where
    may_follow : (entry : Entry) → entry_after 0 history e ≡ Some entry → MayFollow (all_entries 0 (tree_on 0 history)) entry
    may_follow (Insertion x) is =
        let id : x.id ≡ e.id = subst (IdWhere e.id) is (place_id e.id e.op (entries_over id_eq 0 (tree_on 0 history) (applied history e).over)) in
        ap (is_deleted (all_entries 0 (tree_on 0 history))) id ∙ not_deleted history e.id (laid_part [] history (e ∷ []) h) (laid_last [] history e h)
    may_follow (Deletion t) is = tree_ids_apart history (laid_part [] history (e ∷ []) h)
    may_follow Mark is = tt

-- The text of a history with one more event is its text after the event's operation.
pub text_of-push : (history : List Event) (e : Event) → LaidOut [] (history ++ e ∷ []) → text_of (history ++ e ∷ []) ≡ changed_by (next_operation id_eq 0 (tree_on 0 history) (applied history e)) (text_of history)
unfolding text_of tree next_operation
text_of-push history e h =
    ap (λ ns. map (λ (x : Inserted). x.ch) (visible (all_entries 0 ns))) (tree_on-push 0 history e)
    ∙ text-noted history e (entry_after 0 history e) h refl

text_of_later : (before later : List Event) → LaidOut [] (before ++ later) → text_of (before ++ later) ≡ changed_by_all (operations_after id_eq 0 (tree_on 0 before) (applied_after before later)) (text_of before)
text_of_later before [] h = ap text_of (append-nil before)
text_of_later before (e ∷ later) h =
    let shifted : (before ++ e ∷ []) ++ later ≡ before ++ e ∷ later = append_assoc before (e ∷ []) later in
    ap text_of (sym shifted)
    ∙ text_of_later (before ++ e ∷ []) later (subst (LaidOut []) (sym shifted) h)
    ∙ ap (λ notes. changed_by_all (operations_after id_eq 0 notes (applied_after (before ++ e ∷ []) later)) (text_of (before ++ e ∷ []))) (tree_on-push 0 before e)
    ∙ ap (changed_by_all (operations_after id_eq 0 (tree_on 0 before ++ noted_as e.id (entry_after 0 before e)) (applied_after (before ++ e ∷ []) later))) (text_of-push before e (laid_part [] (before ++ e ∷ []) later (subst (LaidOut []) (sym shifted) h)))

nothing_yet : tree_on 0 [] ≡ []
unfolding tree_on tree_of
nothing_yet = refl

no_text : text_of [] ≡ []
unfolding text_of tree tree_on tree_of visible order
no_text = refl

-- The text of a history is what its operations make of the empty text, one after another.
pub text_of_operations : (history : List Event) → LaidOut [] history → text_of history ≡ changed_by_all (operations history) []
unfolding operations operations_of
text_of_operations history h =
    text_of_later [] history h
    ∙ ap (λ notes. changed_by_all (operations_after id_eq 0 notes (applied_after [] history)) (text_of [])) nothing_yet
    ∙ ap (changed_by_all (operations_after id_eq 0 [] (applied_after [] history))) no_text
