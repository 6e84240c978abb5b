use Rattle.std.proofs.Common.{◌≡◌, ◌+◌, ◌-◌, ◌≤◌, ◌++◌, take, vec_capacity}
use Rattle.operation_runs.specs.Runs.{run_ops}
use Rattle.operation_runs.proofs.run.OperationRun.push_to.Given as goal

-- the operations before the place stand behind the others, and there is room for the rest
abbrev pub invariant-loop-place : goal.invariant-loop-place
invariant-loop-place l = (l.ops.items ≡ l.fn.ops.items ++ take l.place (run_ops l.self))
    × (l.ops.len + (l.count - l.place) ≤ vec_capacity l.ops)
