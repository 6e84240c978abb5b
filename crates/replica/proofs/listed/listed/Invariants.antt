use Rattle.std.proofs.Common.{◌≡◌, take}
use Rattle.replica.proofs.listed.listed.Given as goal

abbrev pub invariant-loop-position : goal.invariant-loop-position
invariant-loop-position l = l.events.items ≡ take l.position l.graph
