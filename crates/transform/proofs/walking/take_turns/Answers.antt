use Rattle.std.proofs.Common.{◌≡◌, ◌+◌, ◌-◌, ◌≤◌, None, IfOk, length, take, sym, subst, arith}
use Rattle.ew_model.specs.Cuts.{latest_cut}
use Rattle.ew_model.specs.Touches.{touches}
use Rattle.event_graph.proofs.Summing.{known_ok}
use Rattle.operation_runs.specs.Runs.{run_ops}
use Rattle.transform.specs.Reaching.{ReadyAt}
use Rattle.transform.specs.Running.{GoesTo, TurnsTo, judged_to}
use Rattle.transform.proofs.Loops.{touched}
use Rattle.transform.proofs.RunCuts.{no_cuts}
use Rattle.transform.proofs.RunTurns.{both_ok, cost_of, goes_uncut, judged_going, judged_low, most_cost, run_told, turns_wider}
use Rattle.transform.proofs.walking.take_turns.Goals as goal

pub pass_cut-requires-clause-run : goal.pass_cut-requires-clause-run
pass_cut-requires-clause-run g c =
    let rest = c.rest_near-changes in
    run_told c.args.graph.now c.args.position c.count.result (run_ops rest.result) c.count.ensures rest.ensures.some rest.ensures.within rest.ensures.chain rest.ensures.changes

pub pass_cut-requires-clause-behind : goal.pass_cut-requires-clause-behind
pass_cut-requires-clause-behind g c = (subst (λ at. ReadyAt c.args.graph.now c.args.position at c.reach.new.state) c.in-Some.is (c.in_ok-len.ensures.ready c.requires.walked.0 c.requires.walked.2)).0

pub pass_cut-requires-clause-long : goal.pass_cut-requires-clause-long
pass_cut-requires-clause-long g c = (subst (λ at. ReadyAt c.args.graph.now c.args.position at c.reach.new.state) c.in-Some.is (c.in_ok-len.ensures.ready c.requires.walked.0 c.requires.walked.2)).1

pub apply_run-requires-clause-run : goal.apply_run-requires-clause-run
apply_run-requires-clause-run g c =
    let rest = c.rest_near-changes in
    record {
      events = run_told c.args.graph.now c.args.position c.count.result (run_ops rest.result) c.count.ensures rest.ensures.some rest.ensures.within rest.ensures.chain rest.ensures.changes;
      fits = rest.ensures.fit;
    }

pub apply_run-requires-clause-ready : goal.apply_run-requires-clause-ready
apply_run-requires-clause-ready g c =
    (latest_cut c.args.graph.now c.args.position, subst (λ at. ReadyAt c.args.graph.now c.args.position at c.reach.new.state) c.in-None.is (c.in_ok-len.ensures.ready c.requires.walked.0 c.requires.walked.2))

pub returns-in_err-len-clause-most : goal.returns-in_err-len-clause-most
returns-in_err-len-clause-most g c = λ from low walked.
    omega (arith, c.reach.ensures.most from low walked, touched c.args.graph.now (c.args.position + 1) from)

pub returns-in-Some-clause-turned : goal.returns-in-Some-clause-turned
returns-in-Some-clause-turned g c = λ from low walked.
    let now = c.args.graph.now in
    let position = c.args.position in
    let line = c.pass_cut.new.line in let state = c.pass_cut.new.state in
    let all : position + c.count.result ≤ length now = omega (arith, c.rest_near-changes.ensures.within, c.count.ensures) in
    known_ok (TurnsTo now from position (position + c.count.result) line state) c.pass_cut.result (TurnsTo now from position (length now) line state)
    (λ turns t. turns_wider now from position (position + c.count.result) (length now) line state turns all t) (c.pass_cut.ensures.turned from low)

pub returns-in-Some-clause-steps : goal.returns-in-Some-clause-steps
returns-in-Some-clause-steps g c = λ from low walked.
    let now = c.args.graph.now in
    let position = c.args.position in
    let events = c.count.result in
    let rest = c.rest_near-changes in
    let run = run_told now position events (run_ops rest.result) c.count.ensures rest.ensures.some rest.ensures.within rest.ensures.chain rest.ensures.changes in
    let line = c.pass_cut.new.line in let state = c.pass_cut.new.state in
    both_ok (TurnsTo now from position (position + events) line state) (λ t. c.pass_cut.new.steps + position ≡ c.reach.new.steps + judged_to t)
    (λ t. c.pass_cut.new.steps + touches (take position now) from ≡ c.args.steps.now + touches (take (judged_to t) now) from) c.pass_cut.result
    (λ t turned steps. let high = judged_low now from position (position + events) line state t turned in
    cost_of now c.count-count.ensures.admitted from position events (run_ops rest.result) run low c.args.steps.now c.reach.new.steps c.pass_cut.new.steps (c.in_ok-len.ensures.steps from low walked) (judged_to t) high.0 high.1 steps)
    (c.pass_cut.ensures.turned from low) c.pass_cut.ensures.steps

pub returns-in-Some-clause-most : goal.returns-in-Some-clause-most
returns-in-Some-clause-most g c = λ from low walked.
    let now = c.args.graph.now in
    let rest = c.rest_near-changes in
    let run = run_told now c.args.position c.count.result (run_ops rest.result) c.count.ensures rest.ensures.some rest.ensures.within rest.ensures.chain rest.ensures.changes in
    most_cost now c.count-count.ensures.admitted from c.args.position c.count.result (run_ops rest.result) run low c.args.steps.now c.reach.new.steps c.pass_cut.new.steps (c.in_ok-len.ensures.steps from low walked) c.pass_cut.ensures.most

pub returns-in-None-clause-turned : goal.returns-in-None-clause-turned
returns-in-None-clause-turned g c = λ from low walked.
    let now = c.args.graph.now in
    let position = c.args.position in
    let rest = c.rest_near-changes in
    let state = c.apply_run.new.state in
    let none : c.args.line.now ≡ None = c.in_ok-len.ensures.line c.in-None.is in
    let all : position + c.count.result ≤ length now = omega (arith, rest.ensures.within, c.count.ensures) in
    let apart = no_cuts now c.count-count.ensures.admitted position (position + length (run_ops rest.result) - 1) rest.ensures.chain (omega (arith, rest.ensures.some, rest.ensures.within)) c.count.result
    (omega (arith, rest.ensures.some, c.count.ensures)) (c.in_ok-len.ensures.apart c.in-None.is) in
    let ready = subst (λ at. ReadyAt now position at c.reach.new.state) c.in-None.is (c.in_ok-len.ensures.ready from walked) in
    subst (λ line. IfOk c.apply_run.result (TurnsTo now from position (length now) line state)) (sym none)
    (known_ok (GoesTo now (latest_cut now position) position (position + c.count.result) state) c.apply_run.result (TurnsTo now from position (length now) None state)
    (λ turns t. turns_wider now from position (position + c.count.result) (length now) None state turns all (goes_uncut now from position c.count.result state turns low apart t))
    (c.apply_run.ensures.turned (latest_cut now position) ready))

pub returns-in-None-clause-steps : goal.returns-in-None-clause-steps
returns-in-None-clause-steps g c = λ from low walked.
    let now = c.args.graph.now in
    let position = c.args.position in
    let events = c.count.result in
    let rest = c.rest_near-changes in
    let run = run_told now position events (run_ops rest.result) c.count.ensures rest.ensures.some rest.ensures.within rest.ensures.chain rest.ensures.changes in
    let state = c.apply_run.new.state in
    let cut = latest_cut now position in
    let ready = subst (λ at. ReadyAt now position at c.reach.new.state) c.in-None.is (c.in_ok-len.ensures.ready from walked) in
    both_ok (GoesTo now cut position (position + events) state) (λ t. c.apply_run.new.steps + position ≡ c.reach.new.steps + judged_to t)
    (λ t. c.apply_run.new.steps + touches (take position now) from ≡ c.args.steps.now + touches (take (judged_to t) now) from) c.apply_run.result
    (λ t turned steps. let high = judged_going now cut position (position + events) state t turned in
    cost_of now c.count-count.ensures.admitted from position events (run_ops rest.result) run low c.args.steps.now c.reach.new.steps c.apply_run.new.steps (c.in_ok-len.ensures.steps from low walked) (judged_to t) high.0 high.1 steps)
    (c.apply_run.ensures.turned cut ready) c.apply_run.ensures.steps

pub returns-in-None-clause-most : goal.returns-in-None-clause-most
returns-in-None-clause-most g c = λ from low walked.
    let now = c.args.graph.now in
    let rest = c.rest_near-changes in
    let run = run_told now c.args.position c.count.result (run_ops rest.result) c.count.ensures rest.ensures.some rest.ensures.within rest.ensures.chain rest.ensures.changes in
    most_cost now c.count-count.ensures.admitted from c.args.position c.count.result (run_ops rest.result) run low c.args.steps.now c.reach.new.steps c.apply_run.new.steps (c.in_ok-len.ensures.steps from low walked) c.apply_run.ensures.most
