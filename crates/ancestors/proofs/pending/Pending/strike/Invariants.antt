use Rattle.std.proofs.Common.{length}
use Rattle.ancestors.proofs.PendingLists.{Striking}
use Rattle.ancestors.proofs.pending.Pending.strike.Given as goal

abbrev pub invariant-loop-found : goal.invariant-loop-found
invariant-loop-found l = Striking l.position l.initial.self l.self l.found

abbrev pub decreases-loop-found : goal.decreases-loop-found
decreases-loop-found l = length l.self
