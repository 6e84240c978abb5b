use Rattle.std.proofs.Common.{◌≡◌, ◌+◌, ◌<◌, length, arith}
use Rattle.transform.proofs.Loops.{touched}
use Rattle.transform.proofs.WholeWalks.{whole_begins, whole_ends, untouched, all_touched}
use Rattle.transform.proofs.placing.apply_each.Goals as goal

pub loop-position-init : goal.loop-position-init
loop-position-init g c = record {
  high = omega arith;
  whole = whole_begins c.args.graph.now c.args.state.now c.requires.base;
  steps = omega (arith, untouched c.args.graph.now);
}

pub apply_next-requires-clause-within : goal.apply_next-requires-clause-within
apply_next-requires-clause-within g c = omega (arith, c.loop-position-test.true, c.count-position-end.ensures.count)

pub apply_next-requires-clause-applied : goal.apply_next-requires-clause-applied
apply_next-requires-clause-applied g c = c.loop-position.invariant.whole

pub loop-position-preserved : goal.loop-position-preserved
loop-position-preserved g c =
    let within : c.loop-position.position < length c.args.graph.now = omega (arith, c.loop-position-test.true, c.count-position-end.ensures.count) in
    record {
      high = omega (arith, within);
      whole = c.in_ok-apply_next.ensures.applied;
      steps = omega (arith, c.in_ok-apply_next.ensures.steps, c.loop-position.invariant.steps);
    }

pub returns-in_err-apply_next-clause-most : goal.returns-in_err-apply_next-clause-most
returns-in_err-apply_next-clause-most g c =
    omega (arith, c.apply_next.ensures.most, c.loop-position.invariant.steps, touched c.args.graph.now (c.loop-position.position + 1) 0)

pub returns-clause-applied : goal.returns-clause-applied
returns-clause-applied g c =
    let inv = c.loop-position.invariant in
    whole_ends c.args.graph.now c.loop-position.position c.loop-position.state (omega (arith, c.loop-position-test.false, c.count-position-end.ensures.count, inv.high)) inv.whole

pub returns-clause-touches : goal.returns-clause-touches
returns-clause-touches g c =
    let inv = c.loop-position.invariant in
    let all : c.loop-position.position ≡ length c.args.graph.now = omega (arith, c.loop-position-test.false, c.count-position-end.ensures.count, inv.high) in
    omega (arith, inv.steps, all_touched c.args.graph.now c.loop-position.position all)

pub returns-clause-most : goal.returns-clause-most
returns-clause-most g c =
    let inv = c.loop-position.invariant in
    let all : c.loop-position.position ≡ length c.args.graph.now = omega (arith, c.loop-position-test.false, c.count-position-end.ensures.count, inv.high) in
    omega (arith, inv.steps, all_touched c.args.graph.now c.loop-position.position all)
