use Rattle.std.proofs.Common.{◌≡◌, find}
use Rattle.ew_model.specs.Arrival.{is_ready}
use Rattle.waiting_pool.specs.Waiting.{events_of}
use Rattle.waiting_pool.proofs.Notes.{events_in}
use Rattle.waiting_pool.proofs.pool.Pool.ready.Given as goal

abbrev pub invariant-loop-waiter : goal.invariant-loop-waiter
invariant-loop-waiter l = find (is_ready l.graph) (events_in l.waiter-iterator) ≡ find (is_ready l.graph) (events_of l.self)
