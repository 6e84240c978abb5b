-- Changes of a text, as C sees them.
use Rattle.ew_model.specs.declared.text_op.TextOp.{TextOp}
use Rattle.ew_model.specs.declared.text_op.TextOp.TheVariants.{Ins, Del, Nothing}
use Rattle.egw_c.specs.declared.change.Change.{Change}

-- nothing is 0, an insertion 1, a deletion 2; what isn't needed is 0
abbrev pub change_of : TextOp → Change
change_of Nothing = record { kind = 0; at = 0; ch = 0 }
change_of (Ins at ch) = record { kind = 1; at = at; ch = ch }
change_of (Del at) = record { kind = 2; at = at; ch = 0 }
