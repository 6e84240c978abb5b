use Rattle.std.proofs.Common.{arith}
use Rattle.ew_model.proofs.ListParts.{element_there}
use Rattle.transform.proofs.WholeWalks.{whole_counts, whole_goes, whole_next, never_outside}
use Rattle.transform.proofs.placing.apply_next.Goals as goal

pub make_ready-requires-clause-walked : goal.make_ready-requires-clause-walked
make_ready-requires-clause-walked g c = whole_goes c.args.graph.now c.args.position c.args.state.now c.requires.good c.requires.applied

pub apply-requires-clause-ready : goal.apply-requires-clause-ready
apply-requires-clause-ready g c = (0, c.in_ok-make_ready.ensures.ready)

pub unreachable-requires : goal.unreachable-requires
unreachable-requires g c =
    let now = c.args.graph.now in
    let found = element_there now c.args.position c.requires.within in
    never_outside now c.args.position found.0 c.apply.new.state c.in_ok-turn.turn _ c.requires.good found.1 c.in-OutOfRange.is
    (c.in_ok-turn.ensures.turned 0 found.0 c.in_ok-make_ready.ensures.ready found.1)

pub returns-clause-applied : goal.returns-clause-applied
returns-clause-applied g c =
    let now = c.args.graph.now in
    let found = element_there now c.args.position c.requires.within in
    whole_next now c.args.position found.0 c.apply.new.state c.in_ok-turn.turn c.requires.good found.1
    (c.in_ok-turn.ensures.turned 0 found.0 c.in_ok-make_ready.ensures.ready found.1)

pub returns-clause-steps : goal.returns-clause-steps
returns-clause-steps g c = omega (arith, c.in_ok-make_ready.ensures.steps 0 (whole_counts c.args.position), c.apply.ensures.steps)

pub returns-clause-most : goal.returns-clause-most
returns-clause-most g c = omega (arith, c.in_ok-make_ready.ensures.steps 0 (whole_counts c.args.position), c.apply.ensures.steps)

pub returns-in_err-make_ready-clause-most : goal.returns-in_err-make_ready-clause-most
returns-in_err-make_ready-clause-most g c = omega (arith, c.make_ready.ensures.most 0 (whole_counts c.args.position))

pub returns-in_err-turn-clause-most : goal.returns-in_err-turn-clause-most
returns-in_err-turn-clause-most g c = omega (arith, c.in_ok-make_ready.ensures.steps 0 (whole_counts c.args.position), c.apply.ensures.steps)
