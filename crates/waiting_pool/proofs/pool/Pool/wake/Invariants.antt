use Rattle.std.proofs.Common.{Some, count_by}
use Rattle.waiting_pool.specs.Waiting.{has_missing}
use Rattle.waiting_pool.specs.Knowing.{KeepsEvents, KeepsMissed}
use Rattle.waiting_pool.proofs.pool.Pool.wake.Given as goal

abbrev pub invariant-loop : goal.invariant-loop
invariant-loop l = record { kept : KeepsEvents l.initial.self l.self; missed : KeepsMissed l.initial.self l.self }

abbrev pub decreases-loop : goal.decreases-loop
decreases-loop l = count_by (has_missing (Some l.parent)) l.self.waiters
