use Rattle.std.proofs.Common.{◌≡◌, ◌+◌}
use Rattle.transform.proofs.run.delete_run.Given as goal

abbrev pub invariant-loop : goal.invariant-loop
invariant-loop g l = l.steps ≡ l.fn.steps + l.counter
