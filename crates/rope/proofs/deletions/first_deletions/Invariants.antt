use Rattle.std.proofs.Common.{take}
use Rattle.rope.specs.Deletions.{DeletesFrom}
use Rattle.rope.proofs.deletions.first_deletions.Given as goal

abbrev pub invariant-loop-many : goal.invariant-loop-many
invariant-loop-many l = DeletesFrom l.place (take l.many l.ops)
