use Rattle.std.proofs.Common.{◌≡◌, map, take}
use Rattle.ew_model.specs.Edits.{insertions_at}
use Rattle.ew_model.specs.TextLaws.{own_change}
use Rattle.replica.proofs.edit.typed.Given as goal

abbrev pub invariant-loop-i : goal.invariant-loop-i
invariant-loop-i l = l.changes.items ≡ map own_change (insertions_at l.at (take l.i l.text))
