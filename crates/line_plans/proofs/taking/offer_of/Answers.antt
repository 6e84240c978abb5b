use Rattle.std.proofs.Common.{◌∙◌, ap, length, arith}
use Rattle.ew_model.specs.declared.event.Event.{Event}
use Rattle.event_graph.specs.Subgraphs.{events_at}
use Rattle.generator.proofs.Missing.{summary_distinct}
use Rattle.line_plans.proofs.Taken.{offered, offered_few}
use Rattle.line_plans.proofs.taking.offer_of.Goals as goal

pub missing_positions-requires : goal.missing_positions-requires
missing_positions-requires c = summary_distinct c.graph.result.now c.deref.result.now (c.deref.ensures.value ∙ c.in_ok-known.ensures.value)

pub overflow_cast-held : goal.overflow_cast-held
overflow_cast-held c =
    let few = offered_few c.args.replica.now c.args.graph c.graph.result.now (events_at c.args.graph c.in_ok-positions.positions.items) c.deref.result.now c.graph.ensures.graph (c.deref.ensures.value ∙ c.in_ok-known.ensures.value) c.graph.ensures.kept c.in_ok-positions.ensures.events in
    let many = c.in_ok-positions.ensures.count in
    let same = ap (length {A = Event}) c.in_ok-positions.ensures.events in
    omega (arith, few, many, same, c.len.ensures, c.count-count.ensures, c.count-count.type_inv)

pub overflow_sub-held : goal.overflow_sub-held
overflow_sub-held c =
    let few = offered_few c.args.replica.now c.args.graph c.graph.result.now (events_at c.args.graph c.in_ok-positions.positions.items) c.deref.result.now c.graph.ensures.graph (c.deref.ensures.value ∙ c.in_ok-known.ensures.value) c.graph.ensures.kept c.in_ok-positions.ensures.events in
    let many = c.in_ok-positions.ensures.count in
    let same = ap (length {A = Event}) c.in_ok-positions.ensures.events in
    omega (arith, few, many, same, c.len.ensures, c.count-count.ensures)

pub returns-clause-lacking : goal.returns-clause-lacking
returns-clause-lacking c =
    offered c.args.replica.now c.args.graph c.graph.result.now (events_at c.args.graph c.in_ok-positions.positions.items) c.deref.result.now c.graph.ensures.graph (c.deref.ensures.value ∙ c.in_ok-known.ensures.value) c.graph.ensures.kept c.in_ok-positions.ensures.events

pub returns-clause-held : goal.returns-clause-held
returns-clause-held c =
    let few = offered_few c.args.replica.now c.args.graph c.graph.result.now (events_at c.args.graph c.in_ok-positions.positions.items) c.deref.result.now c.graph.ensures.graph (c.deref.ensures.value ∙ c.in_ok-known.ensures.value) c.graph.ensures.kept c.in_ok-positions.ensures.events in
    let many = c.in_ok-positions.ensures.count in
    let same = ap (length {A = Event}) c.in_ok-positions.ensures.events in
    omega (arith, few, many, same, c.len.ensures, c.count-count.ensures)

pub returns-clause-short : goal.returns-clause-short
returns-clause-short c =
    let few = offered_few c.args.replica.now c.args.graph c.graph.result.now (events_at c.args.graph c.in_ok-positions.positions.items) c.deref.result.now c.graph.ensures.graph (c.deref.ensures.value ∙ c.in_ok-known.ensures.value) c.graph.ensures.kept c.in_ok-positions.ensures.events in
    let many = c.in_ok-positions.ensures.count in
    let same = ap (length {A = Event}) c.in_ok-positions.ensures.events in
    omega (arith, few, many, same, c.count-count.ensures, c.count-count.type_inv)
