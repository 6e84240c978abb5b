use Rattle.std.proofs.Common.{◌≡◌}
use Rattle.ew_model.specs.Kept.{is_awaited}
use Rattle.waiting_pool.specs.Waiting.{events_of}
use Rattle.waiting_pool.proofs.Notes.{events_in}
use Rattle.replica.proofs.awaiting.awaits.Given as goal

abbrev pub invariant-loop-waiter : goal.invariant-loop-waiter
invariant-loop-waiter l = is_awaited l.graph (events_in l.waiter-iterator) l.agent ≡ is_awaited l.graph (events_of l.pool) l.agent
