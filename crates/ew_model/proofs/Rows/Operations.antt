-- Rows on the operation of each event.
use Rattle.std.proofs.Common.{◌≡◌, ℕ, List, [], ◌∷◌, ◌++◌, refl, drop, length, ◌==◌}
use Rattle.ew_model.specs.declared.text_op.TextOp.TheVariants.{Ins, Del, Nothing}
use Rattle.ew_model.specs.Places.{Act}
use Rattle.ew_model.specs.Tree.{Applied, entries_over, tree_of}
use Rattle.ew_model.specs.Entries.{visible}
use Rattle.ew_model.specs.Places.Act.{InsertAs, DeleteAt}
use Rattle.ew_model.specs.Operations.{next_operation, operations_of, operations}
use Rattle.ew_model.specs.Walks.{base_at, walked_from}
use Rattle.ew_model.proofs.Rows.Texts.{opened}
use Rattle.ew_model.proofs.Rows.Events.{id, ins, abc, xyz, diamond, delete_beside_insert, twice_deleted, abcdef}

-- merged the other way round, the later letters come first
other_way : operations (xyz ++ abc) ≡ Ins 0 120 ∷ Ins 1 121 ∷ Ins 2 122 ∷ Ins 0 97 ∷ Ins 1 98 ∷ Ins 2 99 ∷ []
unfolding operations operations_of next_operation opened
other_way = refl

beside : drop 3 (operations delete_beside_insert) ≡ Del 1 ∷ Ins 1 81 ∷ []
unfolding operations operations_of next_operation opened
beside = refl

twice : drop 3 (operations twice_deleted) ≡ Del 1 ∷ Nothing ∷ []
unfolding operations operations_of next_operation opened
twice = refl

late : drop 6 (operations (abcdef ++ ins 98 0 1 88 (id 97 0 ∷ []) ∷ [])) ≡ Ins 6 88 ∷ []
unfolding operations operations_of next_operation opened
late = refl

abbrev by_position : ℕ → Act → List ℕ → Applied ℕ
by_position n act over = record { name = n; act = act; over = over }

-- over a base of two characters, the events named by their positions: a second deletion of one of them does nothing
over_base : operations_of ◌==◌ 2 (by_position 2 (DeleteAt 0) [] ∷ by_position 3 (DeleteAt 0) [] ∷ by_position 4 (InsertAs (id 100 0) 1 90) (2 ∷ []) ∷ []) ≡ Del 0 ∷ Nothing ∷ Ins 1 90 ∷ []
unfolding operations operations_of next_operation opened
over_base = refl

-- of these, both prepared: one character is left
over_base_prepared : length (visible (entries_over ◌==◌ 2 (tree_of ◌==◌ 2 (by_position 2 (DeleteAt 0) [] ∷ by_position 3 (DeleteAt 0) [] ∷ [])) (2 ∷ 3 ∷ []))) ≡ 1
unfolding opened
over_base_prepared = refl

-- none prepared: two
over_base_retreated : length (visible (entries_over ◌==◌ 2 (tree_of ◌==◌ 2 (by_position 2 (DeleteAt 0) [] ∷ by_position 3 (DeleteAt 0) [] ∷ [])) [])) ≡ 2
unfolding opened
over_base_retreated = refl

-- behind the end of the text of the base: no entry
past_the_base : operations_of ◌==◌ 2 (by_position 2 (DeleteAt 2) [] ∷ []) ≡ Nothing ∷ []
unfolding operations_of next_operation opened
past_the_base = refl

-- A fork and a join behind a cut of one event, named by positions: what is below the cut isn't named.
fork_walked : walked_from diamond 1 ≡ by_position 1 (InsertAs (id 98 0) 1 98) [] ∷ by_position 2 (InsertAs (id 99 0) 1 99) [] ∷ by_position 3 (InsertAs (id 100 0) 3 100) (1 ∷ 2 ∷ []) ∷ []
unfolding opened
fork_walked = refl

fork_walked_operations : operations_of ◌==◌ (base_at diamond 1) (walked_from diamond 1) ≡ Ins 1 98 ∷ Ins 2 99 ∷ Ins 3 100 ∷ []
unfolding operations operations_of next_operation opened
fork_walked_operations = refl
