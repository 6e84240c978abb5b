use Rattle.std.proofs.Common.{◌≡◌, ◌+◌}
use Rattle.advance_retreat.proofs.state.tick_each.Given as goal

abbrev pub invariant-loop : goal.invariant-loop
invariant-loop g l = l.steps ≡ l.fn.steps + l.counter
