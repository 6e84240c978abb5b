use Rattle.std.proofs.Common.{◌≡◌, ◌+◌, None, sym, ap, ◌∙◌, subst, arith}
use Rattle.event_graph.proofs.Summing.{known_ok}
use Rattle.operation_runs.specs.Runs.{run_ops}
use Rattle.transform.specs.Running.{GoesTo, TurnsTo, emitted_to, judged_to}
use Rattle.transform.proofs.Lines.{fresh}
use Rattle.transform.proofs.Loops.{latest_here}
use Rattle.transform.proofs.RunTurns.{goes_uncut, run_fewer, together_apart, together_some, turns_wider}
use Rattle.transform.proofs.cut.pass_cut.Goals as goal

pub pass_alone-requires-clause-within : goal.pass_alone-requires-clause-within
pass_alone-requires-clause-within g c = let all = c.requires.run.within in omega (arith, all, c.count_alone-alone.ensures.most)

pub pass_alone-requires-clause-told : goal.pass_alone-requires-clause-told
pass_alone-requires-clause-told g c = let all = c.requires.run.told in omega (arith, all, c.count_alone-alone.ensures.most)

pub apply_run-requires-clause-run : goal.apply_run-requires-clause-run
apply_run-requires-clause-run g c =
    let alone = c.count_alone-alone.result in
    let together = c.count_together in
    let some = together_some alone c.args.run.count together.result c.requires.run.some together.ensures.some together.ensures.none in
    record {
      events = run_fewer c.args.graph.now c.args.run.position c.args.run.count together.result (run_ops c.args.run.changes) c.requires.run some.0 some.1;
      fits = c.requires.fits;
    }

pub apply_run-requires-clause-ready : goal.apply_run-requires-clause-ready
apply_run-requires-clause-ready g c =
    let all = c.requires.run.within in
    (c.args.run.position, fresh c.args.graph.now c.args.run.position c.args.len c.begin_over.new.state (omega (arith, all)) c.requires.behind c.requires.long c.in_ok-begin_over.ensures)

pub apply_run-requires-clause-emitted : goal.apply_run-requires-clause-emitted
apply_run-requires-clause-emitted g c =
    let same : c.args.run.position + c.in_ok-passed.passed.count ≡ c.args.run.position = omega (arith, c.if-done-gt0.false) in
    c.in_ok-passed.ensures.emitted ∙ ap (emitted_to c.args.graph.now c.args.emit_from) same

pub returns-then-done-gt0-clause-turned : goal.returns-then-done-gt0-clause-turned
returns-then-done-gt0-clause-turned g c = λ from low. (
  omega (arith, c.if-done-gt0.true),
  omega (arith, c.in_ok-passed.ensures.most, c.count_alone-alone.ensures.most),
  c.in_ok-passed.ensures.line from c.args.state.now low c.if-done-gt0.true,
)

pub returns-then-done-gt0-clause-most : goal.returns-then-done-gt0-clause-most
returns-then-done-gt0-clause-most g c = omega (arith, c.pass_alone.ensures.most_steps, c.count_alone-alone.ensures.most)

pub returns-in_err-passed-clause-most : goal.returns-in_err-passed-clause-most
returns-in_err-passed-clause-most g c = omega (arith, c.pass_alone.ensures.most_steps, c.count_alone-alone.ensures.most)

pub returns-clause-turned : goal.returns-clause-turned
returns-clause-turned g c = λ from low.
    let now = c.args.graph.now in
    let position = c.args.run.position in
    let alone = c.count_alone-alone.result in
    let together = c.count_together in
    let state = c.apply_run.new.state in
    let some = together_some alone c.args.run.count together.result c.requires.run.some together.ensures.some together.ensures.none in
    let apart = together_apart now position alone c.args.run.count together.result together.ensures.some together.ensures.none c.count_alone-alone.ensures.none in
    let all = c.requires.run.within in
    let ready = fresh now position c.args.len c.begin_over.new.state (omega (arith, all)) c.requires.behind c.requires.long c.in_ok-begin_over.ensures in
    known_ok (GoesTo now position position (position + together.result) state) c.apply_run.result (TurnsTo now from position (position + c.args.run.count) None state)
    (λ turns t. turns_wider now from position (position + together.result) (position + c.args.run.count) None state turns (omega (arith, some.1))
    (goes_uncut now from position together.result state turns low apart
    (subst (λ cut. GoesTo now cut position (position + together.result) state turns) (sym (latest_here now position c.requires.behind.critical)) t)))
    (c.apply_run.ensures.turned position ready)

pub returns-clause-steps : goal.returns-clause-steps
returns-clause-steps g c =
    known_ok (λ t. c.apply_run.new.steps + c.args.run.position ≡ c.pass_alone.new.steps + judged_to t) c.apply_run.result (λ t. c.apply_run.new.steps + c.args.run.position ≡ c.args.steps.now + judged_to t)
    (λ t told. omega (arith, told, c.in_ok-passed.ensures.steps, c.if-done-gt0.false)) c.apply_run.ensures.steps

pub returns-clause-most : goal.returns-clause-most
returns-clause-most g c =
    let together = c.count_together in
    let some = together_some c.count_alone-alone.result c.args.run.count together.result c.requires.run.some together.ensures.some together.ensures.none in
    omega (arith, c.apply_run.ensures.most, some.1, c.in_ok-passed.ensures.steps, c.if-done-gt0.false)
