use Rattle.std.proofs.Common.{◌≡◌, ◌+◌}
use Rattle.transform.proofs.cut.pass_alone.Given as goal

abbrev pub invariant-loop : goal.invariant-loop
invariant-loop g l = l.steps ≡ l.fn.steps + l.counter
