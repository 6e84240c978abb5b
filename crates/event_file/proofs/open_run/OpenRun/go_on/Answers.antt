use Rattle.std.proofs.Common.{arith}
use Rattle.event_file.specs.Runs.{ops_as}
use Rattle.event_file.proofs.RunRest.{count_step}
use Rattle.event_file.proofs.open_run.OpenRun.go_on.Goals as goal

pub overflow_add-self : goal.overflow_add-self
overflow_add-self c =
    let n = count_step (ops_as c.self.inside.rest) (ops_as c.take_first.new.self) c.in_ok-op.op c.in_ok-op.ensures.some in
    omega (arith, n, c.self.invariant)

pub invariant_of-self-2 : goal.invariant_of-self-2
invariant_of-self-2 c =
    let n = count_step (ops_as c.self.inside.rest) (ops_as c.take_first.new.self) c.in_ok-op.op c.in_ok-op.ensures.some in
    (c.in_ok-op.ensures.go_on, omega (arith, n, c.self.invariant), c.self.invariant.2, c.self.invariant.3)
