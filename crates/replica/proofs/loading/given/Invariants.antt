use Rattle.std.proofs.Common.{◌≡◌}
use Rattle.replica.specs.Giving.{WereGiven}
use Rattle.replica.proofs.loading.given.Given as goal

abbrev pub invariant-loop-e : goal.invariant-loop-e
invariant-loop-e l = record { limits : l.loading.limits ≡ l.fn.limits; given : WereGiven l.yielded l.loading }
