use Rattle.undo.specs.Undone.{undone_ids}
use Rattle.undo.proofs.Along.{IsAlong}
use Rattle.undo.proofs.ops.ops_along.Given as goal

abbrev pub invariant-loop-position : goal.invariant-loop-position
invariant-loop-position l = IsAlong l.graph (undone_ids l.undone) l.position-index l.script.ops.items l.script.at
