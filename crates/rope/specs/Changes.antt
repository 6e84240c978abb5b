-- How much room operations take.
use Rattle.std.specs.Prelude.{ℕ, ◌+◌, Bool, true, false, List, [], ◌∷◌, if◌then◌else◌}
use Rattle.ew_model.specs.declared.text_op.TextOp.{TextOp}
use Rattle.ew_model.specs.declared.text_op.TextOp.TheVariants.{Ins, Del, Nothing}

-- the operation lengthens the text
abbrev pub is_insertion : TextOp → Bool
is_insertion (Ins at ch) = true
is_insertion (Del at) = false
is_insertion Nothing = false

-- the places that an operation takes
abbrev pub room_for : TextOp → ℕ
room_for op = if is_insertion op then 1 else 0

-- the places that are enough for the operations one after another
abbrev pub room_for_all : List TextOp → ℕ
room_for_all [] = 0
room_for_all (op ∷ ops) = room_for op + room_for_all ops
