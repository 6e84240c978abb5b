use Rattle.std.proofs.Common.{List, IfSome, IfNone, sym, ◌∙◌, subst, arith}
use Rattle.std.specs.Option.{option_to_list}
use Rattle.advance_retreat.specs.declared.run.Run.{Run}
use Rattle.advance_retreat.specs.Runs.{AreRuns, IsPlaceOf, Tells, TellNone}
use Rattle.advance_retreat.proofs.RunLaws.{runs_front, front_some, front_none, last_some, last_none}
use Rattle.advance_retreat.proofs.runs.Runs.at_near.Goals as goal

pub place_near-place-requires : goal.place_near-place-requires
place_near-place-requires c = subst (AreRuns 0) (sym c.deref.ensures.value) (runs_front c.self.inside.before.items (option_to_list c.self.inside.last) 0 c.self.invariant.0)

pub run_at-requires-clause-order : goal.run_at-requires-clause-order
run_at-requires-clause-order c = subst (AreRuns 0) (sym c.deref-then-lv-run.ensures.value) (runs_front c.self.inside.before.items (option_to_list c.self.inside.last) 0 c.self.invariant.0)

pub run_at-requires-clause-place : goal.run_at-requires-clause-place
run_at-requires-clause-place c = subst (λ (rs : List Run). IsPlaceOf rs c.place_near-place.result c.args.lv) (c.deref.ensures.value ∙ sym c.deref-then-lv-run.ensures.value) c.place_near-place.ensures

pub returns-then-lv-run-clause-some : goal.returns-then-lv-run-clause-some
returns-then-lv-run-clause-some c =
    front_some c.self.inside.before.items (option_to_list c.self.inside.last) c.args.self.now c.args.lv c.run_at.result c.self.view_is
    (subst (λ (rs : List Run). IfSome c.run_at.result (Tells rs c.args.lv)) c.deref-then-lv-run.ensures.value c.run_at.ensures.some)

pub returns-then-lv-run-clause-none : goal.returns-then-lv-run-clause-none
returns-then-lv-run-clause-none c =
    front_none c.self.inside.before.items c.args.self.now c.args.lv c.self.inside.last c.in_ok-run.run' c.run_at.result c.in_ok-run.was c.self.view_is c.if-lv-run.true
    (subst (λ (rs : List Run). IfNone c.run_at.result (TellNone rs c.args.lv)) c.deref-then-lv-run.ensures.value c.run_at.ensures.none)

pub returns-clause-some : goal.returns-clause-some
returns-clause-some c = last_some c.self.inside.before.items c.args.self.now c.args.lv c.self.inside.last c.in_ok-run.run' c.held.result c.in_ok-run.was c.self.view_is c.self.invariant.0 c.held.ensures.some

pub returns-clause-none : goal.returns-clause-none
returns-clause-none c = last_none c.self.inside.before.items c.args.self.now c.args.lv c.self.inside.last c.in_ok-run.run' c.held.result c.in_ok-run.was c.self.view_is c.self.invariant.0 (omega (arith, c.if-lv-run.false)) c.held.ensures.none
