use Rattle.std.proofs.Common.{arith}
use Rattle.event_graph.specs.Subgraphs.{events_at}
use Rattle.line_plans.proofs.Taken.{repeats_within, takes_all, touched_no_more}
use Rattle.line_plans.proofs.taking.take_lacking.Goals as goal

pub returns-in_err-took-clause-most : goal.returns-in_err-took-clause-most
returns-in_err-took-clause-most g c =
    let offer = c.in_ok-offer.offer in
    touched_no_more c.args.replica.now c.args.other (events_at offer.graph offer.positions.items) offer.held c.requires.none_waits c.requires.consistent c.in_ok-offer.ensures.lacking c.in_ok-offer.ensures.held c.args.steps.now c.receive_offer.new.steps c.receive_offer.ensures.most

pub overflow_add-took : goal.overflow_add-took
overflow_add-took g c =
    let offer = c.in_ok-offer.offer in
    let within = repeats_within c.args.replica.now c.args.other (events_at offer.graph offer.positions.items) offer.held c.requires.none_waits c.requires.consistent c.in_ok-offer.ensures.lacking c.in_ok-offer.ensures.held c.receive_offer.new.replica c.in_ok-took.took c.in_ok-took.ensures.received in
    omega (arith, within, c.in_ok-offer.ensures.few)

pub returns-clause-received : goal.returns-clause-received
returns-clause-received g c =
    let offer = c.in_ok-offer.offer in
    takes_all c.args.replica.now c.args.other (events_at offer.graph offer.positions.items) offer.held c.requires.none_waits c.requires.consistent c.in_ok-offer.ensures.lacking c.in_ok-offer.ensures.held c.receive_offer.new.replica c.in_ok-took.took c.in_ok-took.ensures.received

pub returns-clause-most : goal.returns-clause-most
returns-clause-most g c =
    let offer = c.in_ok-offer.offer in
    touched_no_more c.args.replica.now c.args.other (events_at offer.graph offer.positions.items) offer.held c.requires.none_waits c.requires.consistent c.in_ok-offer.ensures.lacking c.in_ok-offer.ensures.held c.args.steps.now c.receive_offer.new.steps c.receive_offer.ensures.most
