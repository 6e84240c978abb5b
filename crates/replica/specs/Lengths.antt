-- How many characters a text has after each event, and after each operation.
use Rattle.std.specs.Prelude.{ℕ, List, [], ◌∷◌, ◌++◌, length}
use Rattle.ew_model.specs.declared.event.Event.{Event}
use Rattle.ew_model.specs.declared.text_op.TextOp.{TextOp}
use Rattle.ew_model.specs.Operations.{changed_by}
use Rattle.ew_model.specs.Texts.{text_of}

-- how many characters the text has after each of the events, which follow those before
abbrev pub lengths_after : List Event → List Event → List ℕ
lengths_after before [] = []
lengths_after before (e ∷ events) = length (text_of (before ++ e ∷ [])) ∷ lengths_after (before ++ e ∷ []) events

-- how many characters the text of the first event has, that of the first two, and so on up to all
abbrev pub prefix_lengths : List Event → List ℕ
prefix_lengths history = lengths_after [] history

-- how many characters a text has after each of the operations
abbrev pub lengths_through : List ℕ → List TextOp → List ℕ
lengths_through text [] = []
lengths_through text (op ∷ ops) = length (changed_by op text) ∷ lengths_through (changed_by op text) ops
