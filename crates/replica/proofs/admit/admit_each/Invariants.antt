use Rattle.std.proofs.Common.{◌≡◌, ◌++◌, take}
use Rattle.replica.specs.Appending.{chain_from}
use Rattle.replica.proofs.admit.admit_each.Given as goal

abbrev pub invariant-loop-op : goal.invariant-loop-op
invariant-loop-op l = l.graph ≡ l.fn.graph ++ chain_from l.first (take l.op-index l.rest)
