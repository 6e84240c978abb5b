-- What operations make of the length of a text.
use Rattle.std.specs.Prelude.{◌≡◌, ℕ, ◌+◌, ◌-◌, List, [], ◌∷◌}
use Rattle.ew_model.specs.declared.event.Op.{Op}
use Rattle.ew_model.specs.declared.event.Op.TheVariants as op
use Rattle.ew_model.specs.declared.text_op.TextOp.{TextOp}
use Rattle.ew_model.specs.declared.text_op.TextOp.TheVariants.{Ins, Del, Nothing}
use Rattle.ew_model.specs.TextLaws.{Fits}

-- an insertion makes it longer by one character, and a deletion shorter; a mark leaves it as it is
abbrev pub length_by : Op → ℕ → ℕ
length_by (op.Ins at ch) len = len + 1
length_by (op.Del at) len = len - 1
length_by (op.Mark label) len = len

-- the same of a change
abbrev pub changed_length : TextOp → ℕ → ℕ
changed_length (Ins at ch) len = len + 1
changed_length (Del at) len = len - 1
changed_length Nothing len = len

-- the changes may be done to a text of a length, one after another, and leave one of another length
abbrev pub FitTo : ℕ → List TextOp → ℕ → Type 0
FitTo len [] after = len ≡ after
FitTo len (change ∷ changes) after = Fits len change × FitTo (changed_length change len) changes after
