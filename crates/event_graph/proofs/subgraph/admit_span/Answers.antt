use Rattle.std.proofs.Common.{◌∙◌, ◌++◌, ◌-◌, ◌+◌, List, ap, subst, sym}
use Rattle.std.specs.List.{range_with_len}
use Rattle.ew_model.specs.declared.event.Event.{Event}
use Rattle.event_graph.specs.Subgraphs.{events_at}
use Rattle.event_graph.proofs.SpanEvents.{AreNext, step}
use Rattle.event_graph.proofs.subgraph.admit_span.Goals as goal
use Rattle.ew_model.proofs.Ranges.{range_first}

pub admit-requires-clause-good : goal.admit-requires-clause-good
admit-requires-clause-good c =
    (step c.args.graph.now c.loop-position.part c.loop-position.position c.in_ok-event_near.field-0 _ _ (range_first c.loop-position.position c.args.span.to c.loop-position-test.true) c.in_ok-event_near.ensures c.loop-position.invariant.next).good

pub loop-position-preserved : goal.loop-position-preserved
loop-position-preserved c =
    let graph = c.args.graph.now in
    let later = range_with_len (c.loop-position.position + 1) (c.args.span.to - (c.loop-position.position + 1)) in
    let s = step graph c.loop-position.part c.loop-position.position c.in_ok-event_near.field-0 later _ (range_first c.loop-position.position c.args.span.to c.loop-position-test.true) c.in_ok-event_near.ensures c.loop-position.invariant.next in
    record {
      next = subst (λ (part : List Event). AreNext graph part later) (sym c.in_ok-admit.ensures.ok) s.next;
      same = ap (λ (part : List Event). part ++ events_at graph later) c.in_ok-admit.ensures.ok ∙ s.same ∙ c.loop-position.invariant.same;
    }
