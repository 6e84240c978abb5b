use Rattle.std.proofs.Common.{◌≡◌, ◌∙◌, ◌++◌, ◌-◌, List, ap, append-nil, arith, length, subst, sym, take}
use Rattle.ew_model.specs.declared.event.Event.{Event}
use Rattle.ancestors.specs.declared.spans.Span.{Span}
use Rattle.ancestors.specs.Spans.{positions_of}
use Rattle.std.proofs.Math.Seq.{take-length}
use Rattle.event_graph.specs.Subgraphs.{events_at}
use Rattle.event_graph.proofs.SpanEvents.{AreNext, all_next, span_turn}
use Rattle.event_graph.proofs.subgraph.part_of.Goals as goal

pub loop-left-init : goal.loop-left-init
loop-left-init c =
    let graph = c.args.graph.now in
    let spans = c.args.spans.now in
    record {
      within = omega arith;
      next = all_next graph spans c.in_ok-part.part c.in_ok-part.ensures (record { within = c.requires.within; admitted = c.requires.admitted; few = omega (arith, c.requires.few) });
      same = ap (λ (part : List Event). part ++ events_at graph (positions_of (take (length spans) spans))) c.in_ok-part.ensures ∙ ap (λ (ss : List Span). events_at graph (positions_of ss)) (take-length spans);
    }

pub admit_span-requires : goal.admit_span-requires
admit_span-requires c =
    let turn = span_turn c.args.graph.now c.loop-left.part c.args.spans.now c.loop-left.left (record { from = 0; to = 0 }) c.loop-left-test.true c.loop-left.invariant.within c.loop-left.invariant.next in
    record { within = turn.now.within; admitted = turn.now.admitted; few = turn.now.few }

pub loop-left-preserved : goal.loop-left-preserved
loop-left-preserved c =
    let graph = c.args.graph.now in
    let left = positions_of (take (c.loop-left.left - 1) c.args.spans.now) in
    let turn = span_turn graph c.loop-left.part c.args.spans.now c.loop-left.left (record { from = 0; to = 0 }) c.loop-left-test.true c.loop-left.invariant.within c.loop-left.invariant.next in
    record {
      within = omega (arith, c.loop-left.invariant.within);
      next = subst (λ (part : List Event). AreNext graph part left) (sym c.in_ok-admit_span.ensures) turn.next;
      same = ap (λ (part : List Event). part ++ events_at graph left) c.in_ok-admit_span.ensures ∙ turn.same ∙ c.loop-left.invariant.same;
    }

pub returns : goal.returns
returns c =
    let none : c.loop-left.left ≡ 0 = omega (arith, c.loop-left-test.false) in
    sym (append-nil c.loop-left.part) ∙ ap (λ n. c.loop-left.part ++ events_at c.args.graph.now (positions_of (take n c.args.spans.now))) (sym none) ∙ c.loop-left.invariant.same
