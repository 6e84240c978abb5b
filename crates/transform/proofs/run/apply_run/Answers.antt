use Rattle.std.proofs.Common.{◌≡◌, ℕ, ◌+◌, ◌-◌, sym, ap, ◌∙◌, subst, arith}
use Rattle.operation_runs.specs.Runs.{run_ops}
use Rattle.transform.specs.declared.run.Turns.{Turns}
use Rattle.transform.specs.Reaching.{IsReadyAt, Reached}
use Rattle.transform.specs.Running.{GoesTo, emitted_to, judged_to, walked_to}
use Rattle.transform.proofs.RunTurns.{ready_next}
use Rattle.transform.proofs.run.apply_run.Goals as goal

pub loop-place-init : goal.loop-place-init
loop-place-init g c =
    let now = c.args.graph.now in
    let position = c.args.run.position in
    let same : position + 0 ≡ position = omega arith in
    record {
      high = omega arith;
      ready = λ cut ready some. subst (λ n. IsReadyAt now cut n c.args.state.now) (sym same) ready;
      walked = λ cut ready some. absurd {A = Reached now cut (position + 0) c.args.state.now} (omega (arith, some));
      emitted = c.requires.emitted ∙ ap (emitted_to now c.args.emit_from) (sym same);
      steps = omega arith;
    }

pub apply_some-requires-clause-ready : goal.apply_some-requires-clause-ready
apply_some-requires-clause-ready g c = (c.requires.ready.0, c.loop-place.invariant.ready c.requires.ready.0 c.requires.ready.1 c.loop-place-test.true)

pub loop-place-preserved : goal.loop-place-preserved
loop-place-preserved g c =
    let now = c.args.graph.now in
    let position = c.args.run.position in
    let next = c.in-To.next in
    let turned = λ (cut : ℕ) (ready : IsReadyAt now cut position c.args.state.now). subst (GoesTo now cut (position + c.loop-place.place) (position + c.args.run.count) c.apply_some.new.state) c.in-To.is (c.in_ok-next.ensures.turned cut (c.loop-place.invariant.ready cut ready c.loop-place-test.true)) in
    let own = turned c.requires.ready.0 c.requires.ready.1 in
    let some = own.0 in
    let high = own.1 in
    let end : position + (next - position) ≡ next = omega (arith, some) in
    let steps = subst (λ (t : Turns). c.apply_some.new.steps + position + c.loop-place.place ≡ c.loop-place.steps + judged_to t) c.in-To.is c.in_ok-next.ensures.steps in
    record {
      high = omega (arith, some, high);
      ready = λ cut ready more. subst (λ m. IsReadyAt now cut m c.apply_some.new.state) (sym end)
          (ready_next now cut position c.args.run.count next (run_ops c.args.run.changes) c.apply_some.new.state c.count-count.ensures.admitted c.count-count.ensures.sound c.requires.run.events (omega (arith, some)) (omega (arith, more, some)) (turned cut ready).2);
      walked = λ cut ready less. subst (λ m. Reached now cut m c.apply_some.new.state) (sym end) (turned cut ready).2;
      emitted = subst (λ (t : Turns). c.apply_some.new.ops ≡ emitted_to now c.args.emit_from (walked_to t)) c.in-To.is c.in_ok-next.ensures.emitted ∙ ap (emitted_to now c.args.emit_from) (sym end);
      steps = omega (arith, steps, c.loop-place.invariant.steps, some);
    }

pub overflow_sub-place : goal.overflow_sub-place
overflow_sub-place g c =
    let cut = c.requires.ready.0 in
    let own = subst (GoesTo c.args.graph.now cut (c.args.run.position + c.loop-place.place) (c.args.run.position + c.args.run.count) c.apply_some.new.state) c.in-To.is (c.in_ok-next.ensures.turned cut (c.loop-place.invariant.ready cut c.requires.ready.1 c.loop-place-test.true)) in
    let some = own.0 in
    omega (arith, some)

pub loop-place-smaller : goal.loop-place-smaller
loop-place-smaller g c =
    let cut = c.requires.ready.0 in
    let own = subst (GoesTo c.args.graph.now cut (c.args.run.position + c.loop-place.place) (c.args.run.position + c.args.run.count) c.apply_some.new.state) c.in-To.is (c.in_ok-next.ensures.turned cut (c.loop-place.invariant.ready cut c.requires.ready.1 c.loop-place-test.true)) in
    let some = own.0 in
    let high = own.1 in
    omega (arith, some, high, c.loop-place-test.true)

-- an event that is out of range
pub returns-in-OutOfRange-clause-turned : goal.returns-in-OutOfRange-clause-turned
returns-in-OutOfRange-clause-turned g c = λ cut ready.
    let own = subst (GoesTo c.args.graph.now cut (c.args.run.position + c.loop-place.place) (c.args.run.position + c.args.run.count) c.apply_some.new.state) c.in-OutOfRange.is (c.in_ok-next.ensures.turned cut (c.loop-place.invariant.ready cut ready c.loop-place-test.true)) in
    let low = own.0 in (omega (arith, low), own.1, own.2, own.3)

pub returns-in-OutOfRange-clause-emitted : goal.returns-in-OutOfRange-clause-emitted
returns-in-OutOfRange-clause-emitted g c = subst (λ (t : Turns). c.apply_some.new.ops ≡ emitted_to c.args.graph.now c.args.emit_from (walked_to t)) c.in-OutOfRange.is c.in_ok-next.ensures.emitted

pub returns-in-OutOfRange-clause-steps : goal.returns-in-OutOfRange-clause-steps
returns-in-OutOfRange-clause-steps g c =
    let steps = subst (λ (t : Turns). c.apply_some.new.steps + c.args.run.position + c.loop-place.place ≡ c.loop-place.steps + judged_to t) c.in-OutOfRange.is c.in_ok-next.ensures.steps in
    omega (arith, steps, c.loop-place.invariant.steps)

-- all of them
pub returns-clause-turned : goal.returns-clause-turned
returns-clause-turned g c = λ cut ready.
    let inv = c.loop-place.invariant in
    let some = c.requires.run.events.some in
    let same : c.loop-place.place ≡ c.args.run.count = omega (arith, inv.high, c.loop-place-test.false) in (
      omega (arith, some),
      omega arith,
      subst (λ n. Reached c.args.graph.now cut (c.args.run.position + n) c.loop-place.state) same (inv.walked cut ready (omega (arith, same, some))),
    )
