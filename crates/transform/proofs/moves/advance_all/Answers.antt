use Rattle.std.proofs.Common.{◌≡◌, ℕ, List, [], take, length, refl, sym, ap, ◌∙◌, subst, arith}
use Rattle.std.proofs.Math.Seq.{take-length}
use Rattle.advance_retreat.specs.Conditions.{Advanced}
use Rattle.ancestors.specs.declared.spans.Span.{Span}
use Rattle.ancestors.specs.Spans.{positions_of}
use Rattle.advance_retreat.proofs.SpanMoves.{advanced_part}
use Rattle.transform.proofs.SpanLists.{rising_next, rising_long, advance_next, advance_on, advances_made}
use Rattle.transform.proofs.moves.advance_all.Goals as goal

pub loop-left-init : goal.loop-left-init
loop-left-init g c =
    let items = c.as_slice-items.result.now in
    let same : take (length items) items ≡ c.args.spans.now = take-length items ∙ c.as_slice-items.ensures.spans in
    record {
      within = omega arith;
      stands = λ b events prepared st may. subst (λ (ss : List Span). Advanced c.args.state.now b events prepared (positions_of c.args.spans.now) (positions_of ss)) (sym same)
          (record { made = []; parts = refl; now = prepared; is = refl; stands = st; may = may });
      steps = let long = ap (λ (ss : List Span). length (positions_of ss)) same in omega (arith, long);
    }

pub advance_span-requires-clause-may : goal.advance_span-requires-clause-may
advance_span-requires-clause-may g c =
    let q = c.requires in
    let a = c.loop-left.invariant.stands q.0 q.1 q.2 q.3 q.4 in
    let next = rising_next c.as_slice-items.result.now c.loop-left.left _ c.loop-left-test.true c.loop-left.invariant.within in
    (q.0, q.1, a.now, a.stands, advance_next q.0 q.1 q.2 _ c.loop-left.state _ _ _ next a)

pub loop-left-preserved : goal.loop-left-preserved
loop-left-preserved g c =
    let items = c.as_slice-items.result.now in
    let long = rising_long items c.loop-left.left (record { from = 0; to = 0 }) c.loop-left-test.true c.loop-left.invariant.within in
    let next = rising_next items c.loop-left.left _ c.loop-left-test.true c.loop-left.invariant.within in
    record {
      within = omega (arith, c.loop-left.invariant.within);
      stands = λ b events prepared st may.
          let a = c.loop-left.invariant.stands b events prepared st may in
          advance_on b events prepared _ c.loop-left.state _ _ _ next a c.advance_span.new.self
          (c.in_ok-advance_span.ensures.ok b events a.now a.stands (advance_next b events prepared _ c.loop-left.state _ _ _ next a));
      steps = let one = c.in_ok-advance_span.ensures.steps in let so = c.loop-left.invariant.steps in omega (arith, one, so, long);
    }

pub returns-in_err-advance_span-clause-most : goal.returns-in_err-advance_span-clause-most
returns-in_err-advance_span-clause-most g c =
    let long = rising_long c.as_slice-items.result.now c.loop-left.left (record { from = 0; to = 0 }) c.loop-left-test.true c.loop-left.invariant.within in
    let one = c.advance_span.ensures.most in
    let so = c.loop-left.invariant.steps in
    omega (arith, one, so, long)

pub returns-in_err-advance_span-clause-err : goal.returns-in_err-advance_span-clause-err
returns-in_err-advance_span-clause-err g c = λ b events prepared st may.
    let all = positions_of c.args.spans.now in
    let a = c.loop-left.invariant.stands b events prepared st may in
    let next = rising_next c.as_slice-items.result.now c.loop-left.left _ c.loop-left-test.true c.loop-left.invariant.within in
    let part = c.in_err-advance_span.ensures.err b events a.now a.stands (advance_next b events prepared _ c.loop-left.state _ _ _ next a) in
    advanced_part b events prepared all c.loop-left.state c.advance_span.new.self _ _ _ next c.from_residual.result a part

pub returns-clause-ok : goal.returns-clause-ok
returns-clause-ok g c = λ b events prepared st may.
    let a = c.loop-left.invariant.stands b events prepared st may in
    advances_made b events prepared _ c.loop-left.state c.as_slice-items.result.now c.loop-left.left (omega (arith, c.loop-left-test.false)) a

pub returns-clause-steps : goal.returns-clause-steps
returns-clause-steps g c =
    let none : c.loop-left.left ≡ 0 = omega (arith, c.loop-left-test.false) in
    let long = ap (λ (n : ℕ). length (positions_of (take n c.as_slice-items.result.now))) none in
    let so = c.loop-left.invariant.steps in
    omega (arith, long, so)

pub returns-clause-most : goal.returns-clause-most
returns-clause-most g c =
    let so = c.loop-left.invariant.steps in
    omega (arith, so)
