use Rattle.std.proofs.Common.{IfSome, List, ◌-◌, [], ◌∙◌, refl, subst, sym, ap, arith}
use Rattle.std.specs.List.{range_with_len}
use Rattle.advance_retreat.specs.declared.line.Way.TheVariants.{Up}
use Rattle.advance_retreat.specs.declared.target.Target.{Target}
use Rattle.advance_retreat.specs.Kept.{Kept}
use Rattle.advance_retreat.specs.Lines.{IsLineFrom}
use Rattle.advance_retreat.specs.Standing.{StandsFor}
use Rattle.advance_retreat.specs.Conditions.{PartAdvanced}
use Rattle.advance_retreat.proofs.SpanMoves.{advanced_end, advanced_on, advance_left}
use Rattle.advance_retreat.proofs.state.State.advance_span.Goals as goal
use Rattle.ew_model.proofs.Outcomes.{on_err}

pub loop-at-init : goal.loop-at-init
loop-at-init g c = record {
  low = omega arith;
  high = c.requires.order;
  stands = λ b events prepared st may. record { made = []; parts = refl; now = prepared; is = refl; stands = st; may = may };
  line = tt;
  lost = refl;
  steps = refl;
}

pub advance_some-requires-clause-may : goal.advance_some-requires-clause-may
advance_some-requires-clause-may g c =
    let q = c.requires.may in
    let a = c.loop-at.invariant.stands q.0 q.1 q.2 q.3 q.4 in
    (q.0, q.1, a.now, subst (λ (s : Kept). StandsFor s q.0 q.1 a.now) (sym c.line_on-here.ensures.same) a.stands, a.may)

pub advance_some-requires-clause-line : goal.advance_some-requires-clause-line
advance_some-requires-clause-line g c = subst (λ (s : Kept). IfSome c.line_on-here.result (IsLineFrom Up s.targets c.loop-at.at (c.args.to - c.loop-at.at))) (sym c.line_on-here.ensures.same) c.line_on-here.ensures.line

pub loop-at-preserved : goal.loop-at-preserved
loop-at-preserved g c =
    let low = c.in_ok-next.ensures.low in
    let high = c.in_ok-next.ensures.high in
    let same = sym c.line_on-here.ensures.same in
    record {
      low = omega (arith, low, c.loop-at.invariant.low);
      high = omega (arith, high, c.loop-at.invariant.high);
      stands = λ b events prepared st may.
          let a = c.loop-at.invariant.stands b events prepared st may in
          let d = c.in_ok-next.ensures.ok b events a.now (subst (λ (s : Kept). StandsFor s b events a.now) same a.stands) a.may in
          advanced_on b events prepared _ c.loop-at.self _ _ _ a d;
      line =
          let q = c.requires.may in
          let a = c.loop-at.invariant.stands q.0 q.1 q.2 q.3 q.4 in
          let d = c.in_ok-next.ensures.ok q.0 q.1 a.now (subst (λ (s : Kept). StandsFor s q.0 q.1 a.now) same a.stands) a.may in
          subst (λ (ts : List Target). IfSome c.behind-line.result (IsLineFrom Up ts c.in_ok-next.next (c.args.to - c.in_ok-next.next))) (a.stands.targets ∙ sym d.stands.targets)
          (c.behind-line.ensures c.loop-at.self.targets c.loop-at.at c.in_ok-next.next (c.args.to - c.loop-at.at) (c.args.to - c.in_ok-next.next) c.line_on-here.ensures.line (λ some. omega (arith, low)) (omega (arith, low, high)));
      lost = c.advance_some.ensures.lost ∙ ap (λ (s : Kept). s.lost) c.line_on-here.ensures.same ∙ c.loop-at.invariant.lost;
      steps = let one = c.in_ok-next.ensures.steps in let so = c.loop-at.invariant.steps in omega (arith, one, so);
    }

pub returns-in_err-next-clause-err : goal.returns-in_err-next-clause-err
returns-in_err-next-clause-err g c = λ b events prepared st may.
    let all = range_with_len c.args.from (c.args.to - c.args.from) in
    let part = advance_left b events c.loop-at.self prepared all c.loop-at.at c.args.to c.loop-at-test.true (c.loop-at.invariant.stands b events prepared st may) in
    on_err c.from_residual.result (PartAdvanced c.advance_some.new.self b events prepared all) (subst (λ (s : Kept). PartAdvanced s b events prepared all) (sym (c.in_err-next.ensures.err ∙ c.line_on-here.ensures.same)) part)

pub returns-clause-ok : goal.returns-clause-ok
returns-clause-ok g c = λ b events prepared st may.
    let a = c.loop-at.invariant.stands b events prepared st may in
    advanced_end b events c.loop-at.self prepared c.loop-at.at c.args.to _ a (omega (arith, c.loop-at-test.false))
