use Rattle.std.proofs.Common.{◌≡◌, true, None, count_by}
use Rattle.std.specs.List.{list_all}
use Rattle.waiting_pool.specs.Waiting.{has_missing}
use Rattle.waiting_pool.specs.Knowing.{KeepsEvents, is_missed}
use Rattle.waiting_pool.proofs.pool.Pool.sift.Given as goal

abbrev pub invariant-loop : goal.invariant-loop
invariant-loop l = record { kept : KeepsEvents l.initial.self l.self; missed : list_all (is_missed l.graph) l.self.waiters ≡ true }

abbrev pub decreases-loop : goal.decreases-loop
decreases-loop l = count_by (has_missing None) l.self.waiters
