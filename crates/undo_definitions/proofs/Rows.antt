-- The definitions at work, worked out by hand: a types abc.
use Rattle.std.proofs.Common.{◌≡◌, ℕ, List, [], ◌∷◌, ◌++◌, Some, None, refl}
use Rattle.ew_model.specs.declared.event.Op.TheVariants.{Ins}
use Rattle.ew_model.specs.declared.event.Event.{Event}
use Rattle.ew_model.specs.Edits.{events_of_ops}
use Rattle.ew_model.proofs.Rows.Events.{id, ins, del, abc, delete_beside_insert, twice_deleted}
use Rattle.ew_model.proofs.Rows.Texts.{opened}
use Rattle.ew_model.proofs.Rows.Receiving.{program}
use Rattle.undo_definitions.specs.Wanted.{ids_from, wanted}
use Rattle.undo_definitions.specs.Undoing.{ops_of_undo, events_of_undo, undo_refusal}
use Rattle.undo_definitions.specs.Undoing.UndoRefusal.{NoEvent}

-- all that an undo unfolds
unfoldable undoing : ℕ
unfolding opened wanted ops_of_undo events_of_ops undo_refusal
undoing = 0

-- b undoes the b of it ..
abbrev without_b : List Event
without_b = abc ++ del 98 0 1 (id 97 2 ∷ []) ∷ []

first_undo : abc ++ events_of_undo abc (98 ∷ []) (ids_from (97 ∷ []) 1 1) ≡ without_b
unfolding undoing
first_undo = refl

-- .. and that undo,
abbrev with_another_b : List Event
with_another_b = without_b ++ ins 98 1 1 98 (id 98 0 ∷ []) ∷ []

second_undo : without_b ++ events_of_undo without_b (98 ∷ []) (ids_from (98 ∷ []) 0 1) ≡ with_another_b
unfolding undoing
second_undo = refl

-- so there is nothing more to do about the first b.
third_undo : events_of_undo with_another_b (98 ∷ []) (ids_from (97 ∷ []) 1 1) ≡ []
unfolding undoing
third_undo = refl

-- But the deletion is still one, and what it deleted isn't shown: undone again, it puts in one b more.
deletion_undone_again : ops_of_undo with_another_b (ids_from (98 ∷ []) 0 1) ≡ Ins 2 98 ∷ []
unfolding undoing
deletion_undone_again = refl

-- b and c both delete the b: it comes back only where both are undone
one_of_two_deletions : ops_of_undo twice_deleted (id 98 0 ∷ []) ≡ []
unfolding undoing
one_of_two_deletions = refl

both_deletions : ops_of_undo twice_deleted (id 98 0 ∷ id 99 0 ∷ []) ≡ Ins 1 98 ∷ []
unfolding undoing
both_deletions = refl

-- b deletes the b, and c puts Q in behind it: undone together, from left to right
deletion_and_insertion : events_of_undo delete_beside_insert (100 ∷ []) (id 98 0 ∷ id 99 0 ∷ []) ≡ ins 100 0 1 98 (id 98 0 ∷ id 99 0 ∷ []) ∷ del 100 1 2 (id 100 0 ∷ []) ∷ []
unfolding undoing
deletion_and_insertion = refl

-- an event that nobody made can't be undone
nobody_made : undo_refusal program abc (ids_from (97 ∷ []) 2 3) ≡ Some (NoEvent (id 97 3))
unfolding undoing
nobody_made = refl

nothing_to_undo : undo_refusal program abc (ids_from (122 ∷ []) 7 0) ≡ None
unfolding undoing
nothing_to_undo = refl
