-- What is wanted, and how it stands to what is shown.
use Rattle.std.proofs.Common.{◌≡◌, Bool, true, false, not, ◌&&◌, List, [], filter, Option, Some, None, option_map, slice_get, refl, sym, ap, ◌∙◌, subst}
use Rattle.std.specs.List.Sorted.{IsStrictlySortedBy}
use Rattle.std.proofs.lemmas.Bool.{false≢true, false_from_ne_true}
use Rattle.std.proofs.lemmas.List.Elements.{filter_agree}
use Rattle.std.proofs.lemmas.List.Kept.{IsStrictlySortedBy-filter}
use Rattle.ew_model.specs.declared.id.Id.{Id}
use Rattle.ew_model.specs.declared.event.Event.{Event}
use Rattle.ew_model.specs.declared.event.Op.{Op}
use Rattle.ew_model.specs.declared.event.Op.TheVariants as op
use Rattle.ew_model.specs.Sets.{Among}
use Rattle.ew_model.specs.Ids.{id_eq, is_among}
use Rattle.ew_model.specs.Ancestors.{ancestors}
use Rattle.ew_model.specs.Paths.{Step}
use Rattle.ew_model.specs.Entries.{Inserted, Entry, inserted_cmp, insertions, deletes, is_deleted, order, visible}
use Rattle.ew_model.specs.Entries.Entry.{Insertion, Deletion, Mark}
use Rattle.ew_model.specs.Places.{path_before, new_path, place}
use Rattle.ew_model.specs.Tree.{Noted, act_by, all_entries, entries_over, next_entry, tree_on, tree}
use Rattle.ew_model.specs.Verdicts.{IsGood}
use Rattle.ew_model.specs.Texts.{text_chars}
use Rattle.ew_model.proofs.ApartLaws.{apart_by_path, apart_filter}
use Rattle.ew_model.proofs.EntryLaws.{LaidOut}
use Rattle.ew_model.proofs.EqualSets.{note_of_tree, notes_apart, tree_apart}
use Rattle.ew_model.proofs.GoodLaws.{good_laid_out}
use Rattle.ew_model.proofs.ListTests.{any_from, found_by, filter_twice}
use Rattle.ew_model.proofs.OwnIndex.{sorted_order}
use Rattle.ew_model.proofs.PlaceLaws.{placed_total, ApartByPath, among_insertions, insertion_among}
use Rattle.ew_model.proofs.PrefixLaws.{ordered_among}
use Rattle.ew_model.proofs.SetLaws.{among_filter, filter_among, among_map, map_among}
use Rattle.ew_model.proofs.SortingLaws.{among_sort, sorted_unique}
use Rattle.undo_definitions.specs.Wanted.{chars_in_order, is_gone, left_by_others, is_wanted, wanted, restored, taken_out}
use Rattle.undo_definitions.specs.Undoing.{ops_of_undo}
use Rattle.undo_definitions.specs.UndoLaws.{WantedIsLeftByOthers}
use Rattle.undo_definitions.proofs.Scripts.{script, changes_along}

-- THE ORDER
pub shown_in_order : (history : List Event) → text_chars history ≡ filter (λ z. not (is_gone history z)) (chars_in_order history)
unfolding visible
shown_in_order history = refl

pub order_sorted : (history : List Event) → IsGood history → IsStrictlySortedBy inserted_cmp (chars_in_order history)
unfolding tree
order_sorted history good = sorted_order (all_entries 0 (tree_on 0 history)) (tree_apart history (good_laid_out history good))

-- the operations of an undo are those from left to right
pub script_of : (history : List Event) (undone : List Id) → IsGood history → ops_of_undo history undone ≡ script (is_gone history) (is_wanted history undone) 0 (chars_in_order history)
unfolding ops_of_undo wanted
script_of history undone good = changes_along (is_gone history) (is_wanted history undone) (chars_in_order history) [] (chars_in_order history) refl (order_sorted history good)

-- WHAT OTHERS DELETED
-- what is left by others is there
left_among : (undone : List Id) (notes : List (Noted Id)) (entry : Entry) → Among entry (left_by_others undone notes) → Among entry (all_entries 0 notes)
left_among undone notes entry m =
    let from = among_map (λ (n : Noted Id). n.entry) (filter (λ n. not (is_among undone n.name)) notes) entry m in
    subst (λ w. Among w (all_entries 0 notes)) (sym from.2) (map_among (λ (n : Noted Id). n.entry) notes from.0 (among_filter (λ n. not (is_among undone n.name)) notes from.0 from.1).0)

-- so what is shown is deleted by nobody
pub not_deleted_by_others : (history : List Event) (undone : List Id) (z : Inserted) → is_gone history z ≡ false → is_deleted (left_by_others undone (tree history)) z.id ≡ false
not_deleted_by_others history undone z h =
    false_from_ne_true (is_deleted (left_by_others undone (tree history)) z.id) (λ e.
    let found = found_by (deletes z.id) (left_by_others undone (tree history)) e in
    false≢true (sym h ∙ any_from (deletes z.id) (all_entries 0 (tree history)) found.0 (left_among undone (tree history) found.0 found.1) found.2))

-- HOW MANY
both_tests : (g a d : Bool) → (g ≡ false → d ≡ false) → (not g && not (not a && not d)) ≡ (not g && a)
both_tests true a d h = refl
both_tests false a d h = ap (λ b. not (not a && not b)) (h refl) ∙ at a
  where
    at : (a : Bool) → not (not a && true) ≡ a
    at true = refl
    at false = refl

pub same_taken_out : (history : List Event) (undone : List Id) → filter (λ z. not (is_gone history z) && not (is_wanted history undone z)) (chars_in_order history) ≡ taken_out history undone
same_taken_out history undone =
    filter_agree (λ z. not (is_gone history z) && not (is_wanted history undone z)) (λ z. not (is_gone history z) && is_among undone z.id)
    (λ z. both_tests (is_gone history z) (is_among undone z.id) (is_deleted (left_by_others undone (tree history)) z.id) (not_deleted_by_others history undone z)) (chars_in_order history)
    ∙ sym (filter_twice (λ z. not (is_gone history z)) (λ z. is_among undone z.id) (chars_in_order history))
    ∙ ap (filter (λ (z : Inserted). is_among undone z.id)) (sym (shown_in_order history))

pub same_restored : (history : List Event) (undone : List Id) → filter (λ z. is_wanted history undone z && is_gone history z) (chars_in_order history) ≡ restored history undone
unfolding wanted
same_restored history undone = sym (filter_twice (is_wanted history undone) (is_gone history) (chars_in_order history))

-- WHAT IS LEFT BY OTHERS
-- an event that leaves a character gives it its id
leaves_own : (x : Id) (o : Op) (entries : List Entry) (z : Inserted) → place (act_by x o) entries ≡ Some (Insertion z) → z.id ≡ x
unfolding place
leaves_own x (op.Ins i ch) entries z e = at (path_before (visible entries) i) e
  where
    at : (p : Option (List Step)) → option_map (λ q. Insertion (record { id = x; path = new_path (order entries) q x; ch = ch })) p ≡ Some (Insertion z) → z.id ≡ x
    at None e = let no : ⊥ = cc in absurd no
    at (Some q) e =
        let y : Inserted = record { id = x; path = new_path (order entries) q x; ch = ch } in
        let same : y ≡ z = cc in
        sym (ap (λ (w : Inserted). w.id) same)
leaves_own x (op.Del i) entries z e = at (slice_get (visible entries) i) e
  where
    at : (c : Option Inserted) → option_map (λ (target : Inserted). Deletion target.id) c ≡ Some (Insertion z) → z.id ≡ x
    at None e = let no : ⊥ = cc in absurd no
    at (Some c) e = let no : ⊥ = cc in absurd no
leaves_own x (op.Mark label) entries z e = let no : ⊥ = cc in absurd no

pub note_has_id : (history : List Event) (n : Noted Id) (z : Inserted) → LaidOut [] history → Among n (tree_on 0 history) → n.entry ≡ Insertion z → z.id ≡ n.name
unfolding next_entry
note_has_id history n z laid m is =
    let from = note_of_tree history n laid m in
    let e = from.0 in
    leaves_own e.id e.op (entries_over id_eq 0 (tree_on 0 history) (ancestors history e.parents)) z (from.3 ∙ ap (λ w. Some w) is) ∙ sym from.2

module _ (history : List Event) (undone : List Id) (good : IsGood history) where
  laid : LaidOut [] history
  laid = good_laid_out history good

  abbrev by_others : Noted Id → Bool
  by_others n = not (is_among undone n.name)

  left_apart : ApartByPath (left_by_others undone (tree history))
  unfolding tree
  left_apart = apart_by_path (filter by_others (tree_on 0 history)) (apart_filter by_others (tree_on 0 history) (notes_apart history laid))

  left_there : (z : Inserted) → Among z (order (left_by_others undone (tree history))) → Among z (filter (λ y. not (is_among undone y.id)) (chars_in_order history))
  unfolding tree order
  left_there z m =
      let left = left_by_others undone (tree history) in
      let note = among_map (λ (n : Noted Id). n.entry) (filter by_others (tree history)) (Insertion z) (among_insertions left z (ordered_among left z m)) in
      let n = note.0 in
      let kept = among_filter by_others (tree history) n note.1 in
      let id : z.id ≡ n.name = note_has_id history n z laid kept.0 (sym note.2) in
      filter_among (λ y. not (is_among undone y.id)) (chars_in_order history) z
      (among_sort placed_total (insertions (all_entries 0 (tree history))) z (insertion_among (all_entries 0 (tree history)) z (left_among undone (tree history) (Insertion z) (among_insertions left z (ordered_among left z m)))))
      (ap (λ x. not (is_among undone x)) id ∙ kept.1)

  left_back : (z : Inserted) → Among z (filter (λ y. not (is_among undone y.id)) (chars_in_order history)) → Among z (order (left_by_others undone (tree history)))
  unfolding tree order
  left_back z m =
      let all = all_entries 0 (tree history) in
      let left = left_by_others undone (tree history) in
      let kept = among_filter (λ y. not (is_among undone y.id)) (chars_in_order history) z m in
      let note = among_map (λ (n : Noted Id). n.entry) (tree history) (Insertion z) (among_insertions all z (ordered_among all z kept.0)) in
      let n = note.0 in
      let id : z.id ≡ n.name = note_has_id history n z laid note.1 (sym note.2) in
      let there : Among n (filter by_others (tree history)) = filter_among by_others (tree history) n note.1 (ap (λ x. not (is_among undone x)) (sym id) ∙ kept.1) in
      among_sort placed_total (insertions left) z (insertion_among left z (subst (λ w. Among w left) (sym note.2) (map_among (λ (k : Noted Id). k.entry) (filter by_others (tree history)) n there)))

  order_left : order (left_by_others undone (tree history)) ≡ filter (λ z. not (is_among undone z.id)) (chars_in_order history)
  order_left =
      sorted_unique placed_total (order (left_by_others undone (tree history))) (filter (λ z. not (is_among undone z.id)) (chars_in_order history))
      (sorted_order (left_by_others undone (tree history)) left_apart)
      (IsStrictlySortedBy-filter inserted_cmp (λ z. not (is_among undone z.id)) (chars_in_order history) (order_sorted history good))
      left_there left_back

  pub wanted_by_others : wanted history undone ≡ visible (left_by_others undone (tree history))
  unfolding wanted visible
  wanted_by_others =
      sym (filter_twice (λ z. not (is_among undone z.id)) (λ z. not (is_deleted (left_by_others undone (tree history)) z.id)) (chars_in_order history))
      ∙ ap (filter (λ (z : Inserted). not (is_deleted (left_by_others undone (tree history)) z.id))) (sym order_left)

-- The law of what is wanted.
pub wanted_is_left_by_others : WantedIsLeftByOthers
wanted_is_left_by_others history undone good = wanted_by_others history undone good
