-- The letters of characters, by the positions of their events.
use Rattle.std.proofs.Common.{◌≡◌, ℕ, List, [], Option, Some, None, option_map, slice_get, sym, ap, ◌∙◌}
use Rattle.std.specs.Option.{option_and_then}
use Rattle.std.proofs.lemmas.Option.{slice_get-map}
use Rattle.ew_model.specs.declared.id.Id.{Id}
use Rattle.ew_model.specs.declared.event.Op.{Op}
use Rattle.ew_model.specs.declared.event.Op.TheVariants as op
use Rattle.ew_model.specs.declared.event.Event.{Event}
use Rattle.ew_model.specs.Ids.{id_eq}
use Rattle.ew_model.specs.Ancestors.{ids_of, ancestors}
use Rattle.ew_model.specs.Paths.{Step}
use Rattle.ew_model.specs.Entries.{Inserted, Entry, order, visible}
use Rattle.ew_model.specs.Entries.Entry.{Insertion, Deletion}
use Rattle.ew_model.specs.Places.{path_before, new_path, place}
use Rattle.ew_model.specs.Tree.{Noted, act_by, all_entries, entries_over, next_entry, tree_on, tree}
use Rattle.ew_model.specs.Verdicts.{IsGood}
use Rattle.ew_model.proofs.CoverLaws.{ids_alike}
use Rattle.ew_model.proofs.EntryLaws.{LaidOut}
use Rattle.ew_model.proofs.EqualSets.{note_of_tree}
use Rattle.ew_model.proofs.GoodLaws.{good_laid_out}
use Rattle.ew_model.proofs.OperationLaws.{got}
use Rattle.ew_model.proofs.PlaceLaws.{among_insertions}
use Rattle.ew_model.proofs.PrefixLaws.{ordered_among}
use Rattle.ew_model.proofs.SetLaws.{among_map}
use Rattle.ew_model.proofs.SubgraphLaws.{one_event}
use Rattle.undo_definitions.specs.Wanted.{chars_in_order}
use Rattle.undo_definitions.proofs.Wants.{note_has_id}
use Rattle.undo.specs.Fates.{letter_in, letter_at}
use Rattle.event_graph.proofs.Counted.{event_there}

leaves_letter : (x : Id) (o : Op) (entries : List Entry) (z : Inserted) → place (act_by x o) entries ≡ Some (Insertion z) → letter_in o ≡ Some z.ch
unfolding place
leaves_letter x (op.Ins i ch) entries z e = at (path_before (visible entries) i) e
  where
    at : (p : Option (List Step)) → option_map (λ q. Insertion (record { id = x; path = new_path (order entries) q x; ch = ch })) p ≡ Some (Insertion z) → Some ch ≡ Some z.ch
    at None e = let no : ⊥ = cc in absurd no
    at (Some q) e =
        let y : Inserted = record { id = x; path = new_path (order entries) q x; ch = ch } in
        let same : y ≡ z = cc in
        ap (λ (w : Inserted). Some w.ch) same
leaves_letter x (op.Del i) entries z e = at (slice_get (visible entries) i) e
  where
    at : (c : Option Inserted) → option_map (λ (target : Inserted). Deletion target.id) c ≡ Some (Insertion z) → None ≡ Some z.ch
    at None e = let no : ⊥ = cc in absurd no
    at (Some c) e = let no : ⊥ = cc in absurd no
leaves_letter x (op.Mark label) entries z e = let no : ⊥ = cc in absurd no

-- the event at a character's position inserts its letter
pub letter_there : (history : List Event) (p n : ℕ) (z : Inserted) → IsGood history → slice_get (chars_in_order history) n ≡ Some z → slice_get (ids_of history) p ≡ Some z.id → letter_at history p ≡ Some z.ch
unfolding next_entry tree
letter_there history p n z good char at =
    let laid : LaidOut [] history = good_laid_out history good in
    let all = all_entries 0 (tree_on 0 history) in
    let note = among_map (λ (k : Noted Id). k.entry) (tree_on 0 history) (Insertion z) (among_insertions all z (ordered_among all z (got (chars_in_order history) n z char))) in
    let id : z.id ≡ note.0.name = note_has_id history note.0 z laid note.1 (sym note.2) in
    let from = note_of_tree history note.0 laid note.1 in
    let f : Event = from.0 in
    let here = event_there history p z.id at in
    let e : Event = here.0 in
    let one : e ≡ f = one_event [] history e f laid (got history p e here.1) from.1 (ap (id_eq e.id) (sym from.2 ∙ sym id ∙ sym here.2) ∙ ids_alike.refl e.id) in
    let letter : letter_in f.op ≡ Some z.ch = leaves_letter f.id f.op (entries_over id_eq 0 (tree_on 0 history) (ancestors history f.parents)) z (from.3 ∙ ap (λ w. Some w) (sym note.2)) in
    ap (option_and_then letter_in) (slice_get-map (λ (k : Event). k.op) history p ∙ ap (option_map (λ (k : Event). k.op)) here.1)
    ∙ ap (λ (k : Event). letter_in k.op) one
    ∙ letter
