use Rattle.std.proofs.Common.{IfSome, ℕ, ◌-◌, List, [], ◌∙◌, reverse, refl, subst, sym, ap, arith}
use Rattle.character_runs.specs.declared.change.Positions.{Positions}
use Rattle.std.specs.List.{range_with_len}
use Rattle.advance_retreat.specs.declared.line.Way.TheVariants.{Down}
use Rattle.advance_retreat.specs.declared.target.Target.{Target}
use Rattle.advance_retreat.specs.Kept.{Kept, target_at, AreWithin}
use Rattle.advance_retreat.specs.Lines.{IsLineFrom}
use Rattle.advance_retreat.specs.Standing.{StandsFor}
use Rattle.advance_retreat.specs.Conditions.{PartRetreated}
use Rattle.advance_retreat.proofs.Resting.{none_prepared}
use Rattle.advance_retreat.proofs.SpanMoves.{retreated_end, retreated_on, retreat_left}
use Rattle.advance_retreat.proofs.state.State.retreat_span.Goals as goal
use Rattle.ew_model.proofs.Outcomes.{on_err}

pub loop-at-init : goal.loop-at-init
loop-at-init g c = record {
  low = c.requires.order;
  high = omega arith;
  stands = λ b events prepared st may. record { made = []; parts = refl; now = prepared; is = refl; stands = st; may = may };
  line = tt;
  lost = refl;
  steps = refl;
}

pub retreat_some-requires-clause-may : goal.retreat_some-requires-clause-may
retreat_some-requires-clause-may g c =
    let q = c.requires.may in
    let a = c.loop-at.invariant.stands q.0 q.1 q.2 q.3 q.4 in
    (q.0, q.1, a.now, subst (λ (s : Kept). StandsFor s q.0 q.1 a.now) (sym c.line_on-here.ensures.same) a.stands, a.may)

pub retreat_some-requires-clause-line : goal.retreat_some-requires-clause-line
retreat_some-requires-clause-line g c = subst (λ (s : Kept). IfSome c.line_on-here.result (IsLineFrom Down s.targets (c.loop-at.at - 1) (c.loop-at.at - c.args.from))) (sym c.line_on-here.ensures.same) c.line_on-here.ensures.line

pub loop-at-preserved : goal.loop-at-preserved
loop-at-preserved g c =
    let low = c.in_ok-next.ensures.low in
    let high = c.in_ok-next.ensures.high in
    let same = sym c.line_on-here.ensures.same in
    record {
      low = omega (arith, low, c.loop-at.invariant.low);
      high = omega (arith, high, c.loop-at.invariant.high);
      stands = λ b events prepared st may.
          let a = c.loop-at.invariant.stands b events prepared st may in
          let d = c.in_ok-next.ensures.ok b events a.now (subst (λ (s : Kept). StandsFor s b events a.now) same a.stands) a.may in
          retreated_on b events prepared _ c.loop-at.self _ _ _ a d;
      line =
          let q = c.requires.may in
          let a = c.loop-at.invariant.stands q.0 q.1 q.2 q.3 q.4 in
          let d = c.in_ok-next.ensures.ok q.0 q.1 a.now (subst (λ (s : Kept). StandsFor s q.0 q.1 a.now) same a.stands) a.may in
          subst (λ (ts : List Target). IfSome c.behind-line.result (IsLineFrom Down ts (c.in_ok-next.next - 1) (c.in_ok-next.next - c.args.from))) (a.stands.targets ∙ sym d.stands.targets)
          (c.behind-line.ensures c.loop-at.self.targets (c.loop-at.at - 1) (c.in_ok-next.next - 1) (c.loop-at.at - c.args.from) (c.in_ok-next.next - c.args.from) c.line_on-here.ensures.line (λ some. omega (arith, some, high)) (omega (arith, low, high)));
      lost = c.retreat_some.ensures.lost ∙ ap (λ (s : Kept). s.lost) c.line_on-here.ensures.same ∙ c.loop-at.invariant.lost;
      steps = let one = c.in_ok-next.ensures.steps in let so = c.loop-at.invariant.steps in omega (arith, one, so);
    }

pub returns-in_err-next-clause-err : goal.returns-in_err-next-clause-err
returns-in_err-next-clause-err g c = λ b events prepared st may.
    let all = reverse (range_with_len c.args.from (c.args.to - c.args.from)) in
    let part = retreat_left b events c.loop-at.self prepared all c.args.from c.loop-at.at c.loop-at-test.true (c.loop-at.invariant.stands b events prepared st may) in
    on_err c.from_residual.result (PartRetreated c.retreat_some.new.self b events prepared all) (subst (λ (s : Kept). PartRetreated s b events prepared all) (sym (c.in_err-next.ensures.err ∙ c.line_on-here.ensures.same)) part)

pub returns-clause-ok : goal.returns-clause-ok
returns-clause-ok g c = λ b events prepared st may.
    let a = c.loop-at.invariant.stands b events prepared st may in
    retreated_end b events c.loop-at.self prepared c.args.from c.loop-at.at _ a (omega (arith, c.loop-at-test.false))

pub returns-then-are_within-clause-ok : goal.returns-then-are_within-clause-ok
returns-then-are_within-clause-ok g c = λ b events prepared st may.
    let at : Positions = record { from = c.args.from; to = c.args.to } in
    let within = subst (λ (s : Kept). AreWithin at (target_at s.targets)) c.self.view_is (c.are_within.ensures c.if-are_within.true) in
    subst (λ (names : List ℕ). StandsFor c.rest.new.self b events names) (sym (none_prepared c.args.self.now b events prepared st at within)) (c.rest.ensures.rests b events prepared st)
