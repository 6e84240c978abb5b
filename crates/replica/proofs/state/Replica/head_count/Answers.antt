use Rattle.std.proofs.Common.{◌∙◌, length, ap, arith}
use Rattle.replica.proofs.HeadLaws.{length-head_positions, few_heads}
use Rattle.replica.proofs.state.Replica.head_count.Goals as goal

-- there are no more heads than events
pub overflow_cast-result : goal.overflow_cast-result
overflow_cast-result c =
    let now = c.self.inside.graph in
    let many = ap length (c.as_slice.ensures.heads ∙ c.frontier.ensures) in
    omega (arith, many, length-head_positions now, few_heads now, c.self.invariant.0.kept.few, c.events-most.ensures.range.few_events)

pub returns : goal.returns
returns c =
    let many = ap length (c.as_slice.ensures.heads ∙ c.frontier.ensures) in
    rw (← c.self.view_is) (omega (arith, many, length-head_positions c.self.inside.graph))
