use Rattle.std.proofs.Common.{arith}
use Rattle.agent_ids.proofs.PositionLists.{some_first, found_at}
use Rattle.agent_ids.proofs.positions.position_at.Goals as goal

pub overflow_sub-run : goal.overflow_sub-run
overflow_sub-run c =
    some_first c.args.runs.now c.args.count c.args.seq c.count_below-below.result c.requires.runs c.requires.within
    (λ d l m. let at = c.count_below-below.ensures.behind 0 d l m in omega (arith, at))

pub overflow_add-result : goal.overflow_add-result
overflow_add-result c =
    let low = (found_at c.args.runs.now c.args.count c.args.seq c.count_below-below.result (record { seq = 0; start = 0 }) c.requires.runs c.requires.within c.count_below-below.ensures.bound c.count_below-below.ensures.below c.count_below-below.ensures.behind).1 in
    omega (arith, low)

pub returns : goal.returns
returns c =
    (found_at c.args.runs.now c.args.count c.args.seq c.count_below-below.result (record { seq = 0; start = 0 }) c.requires.runs c.requires.within c.count_below-below.ensures.bound c.count_below-below.ensures.below c.count_below-below.ensures.behind).0
