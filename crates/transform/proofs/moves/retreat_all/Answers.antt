use Rattle.std.proofs.Common.{List, [], length, reverse, refl, sym, ap, subst, arith}
use Rattle.std.proofs.lemmas.List.{drop_all}
use Rattle.advance_retreat.specs.Conditions.{Retreated}
use Rattle.ancestors.specs.declared.spans.Span.{Span}
use Rattle.ancestors.specs.Spans.{positions_of}
use Rattle.advance_retreat.proofs.SpanMoves.{retreated_part}
use Rattle.transform.proofs.SpanLists.{falling_next, falling_long, retreat_next, retreat_on, retreats_made}
use Rattle.transform.proofs.moves.retreat_all.Goals as goal

pub loop-span-init : goal.loop-span-init
loop-span-init g c =
    let same = c.as_slice-span-items.ensures.spans in
    record {
      stands = λ b events prepared st may. subst (λ (ss : List Span). Retreated c.args.state.now b events prepared (reverse (positions_of c.args.spans.now)) (reverse (positions_of ss))) (sym same)
          (record { made = []; parts = refl; now = prepared; is = refl; stands = st; may = may });
      steps = let long = ap (λ (ss : List Span). length (positions_of ss)) same in omega (arith, long);
    }

pub retreat_span-requires-clause-may : goal.retreat_span-requires-clause-may
retreat_span-requires-clause-may g c =
    let q = c.requires in
    let a = c.loop-span.invariant.stands q.0 q.1 q.2 q.3 q.4 in
    let next = falling_next c.as_slice-span-items.result.now c.loop-span.span-index _ c.loop-span-test.true in
    (q.0, q.1, a.now, a.stands, retreat_next q.0 q.1 q.2 _ c.loop-span.state _ _ _ next a)

pub loop-span-preserved : goal.loop-span-preserved
loop-span-preserved g c =
    let items = c.as_slice-span-items.result.now in
    let long = falling_long items c.loop-span.span-index (record { from = 0; to = 0 }) c.loop-span-test.true in
    let next = falling_next items c.loop-span.span-index _ c.loop-span-test.true in
    record {
      stands = λ b events prepared st may.
          let a = c.loop-span.invariant.stands b events prepared st may in
          retreat_on b events prepared _ c.loop-span.state _ _ _ next a c.retreat_span.new.self
          (c.in_ok-retreat_span.ensures.ok b events a.now a.stands (retreat_next b events prepared _ c.loop-span.state _ _ _ next a));
      steps = let one = c.in_ok-retreat_span.ensures.steps in let so = c.loop-span.invariant.steps in omega (arith, one, so, long);
    }

pub returns-in_err-retreat_span-clause-most : goal.returns-in_err-retreat_span-clause-most
returns-in_err-retreat_span-clause-most g c =
    let long = falling_long c.as_slice-span-items.result.now c.loop-span.span-index (record { from = 0; to = 0 }) c.loop-span-test.true in
    let one = c.retreat_span.ensures.most in
    let so = c.loop-span.invariant.steps in
    omega (arith, one, so, long)

pub returns-in_err-retreat_span-clause-err : goal.returns-in_err-retreat_span-clause-err
returns-in_err-retreat_span-clause-err g c = λ b events prepared st may.
    let all = reverse (positions_of c.args.spans.now) in
    let a = c.loop-span.invariant.stands b events prepared st may in
    let next = falling_next c.as_slice-span-items.result.now c.loop-span.span-index _ c.loop-span-test.true in
    let part = c.in_err-retreat_span.ensures.err b events a.now a.stands (retreat_next b events prepared _ c.loop-span.state _ _ _ next a) in
    retreated_part b events prepared all c.loop-span.state c.retreat_span.new.self _ _ _ next c.from_residual.result a part

pub returns-clause-ok : goal.returns-clause-ok
returns-clause-ok g c = λ b events prepared st may.
    let a = c.loop-span.invariant.stands b events prepared st may in
    retreats_made b events prepared _ c.loop-span.state c.as_slice-span-items.result.now c.loop-span.span-index c.loop-span-test.false a

pub returns-clause-steps : goal.returns-clause-steps
returns-clause-steps g c =
    let none = ap (λ (ss : List Span). length (positions_of ss)) (drop_all c.loop-span.span-index c.as_slice-span-items.result.now c.loop-span-test.false) in
    let so = c.loop-span.invariant.steps in
    omega (arith, none, so)

pub returns-clause-most : goal.returns-clause-most
returns-clause-most g c =
    let so = c.loop-span.invariant.steps in
    omega (arith, so)
