use Rattle.std.proofs.Common.{◌≡◌, ◌++◌, length}
use Rattle.operation_runs.proofs.list.OperationRuns.to_vec.Given as goal

-- the operations that were read and those that are left are all
abbrev pub invariant-loop-run : goal.invariant-loop-run
invariant-loop-run l = l.ops.items ++ l.reader ≡ l.self

abbrev pub decreases-loop-run : goal.decreases-loop-run
decreases-loop-run l = length l.reader
