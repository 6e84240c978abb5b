-- How long texts may be.
use Rattle.std.specs.Prelude.{ℕ, ◌≤◌, List, [], ◌∷◌, length}
use Rattle.ew_model.specs.declared.text_op.TextOp.{TextOp}
use Rattle.ew_model.specs.Operations.{changed_by}

-- a text has at most as many characters as a history has events
abbrev pub most_chars : ℕ
most_chars = 16777216

-- Every text is short that the operations lead through, the first and the last too.
abbrev pub AllStayShort : List ℕ → List TextOp → Type 0
AllStayShort text [] = length text ≤ most_chars
AllStayShort text (op ∷ ops) = (length text ≤ most_chars) × AllStayShort (changed_by op text) ops
