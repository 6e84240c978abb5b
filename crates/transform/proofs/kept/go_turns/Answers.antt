use Rattle.std.proofs.Common.{◌≡◌, ◌+◌, ◌≤◌, length, take, arith}
use Rattle.ew_model.specs.Touches.{touches}
use Rattle.event_graph.proofs.Summing.{known_ok}
use Rattle.operation_runs.specs.Runs.{run_ops}
use Rattle.transform.specs.Running.{GoesTo, judged_to}
use Rattle.transform.proofs.KeptWalks.{counts_low}
use Rattle.transform.proofs.Loops.{touched}
use Rattle.transform.proofs.RunTurns.{both_ok, cost_of, goes_wider, judged_going, most_cost, run_told}
use Rattle.transform.proofs.kept.go_turns.Goals as goal

pub apply_run-requires-clause-run : goal.apply_run-requires-clause-run
apply_run-requires-clause-run g c =
    let rest = c.rest_near-changes in
    record {
      events = run_told c.args.graph.now c.args.position c.count.result (run_ops rest.result) c.count.ensures rest.ensures.some rest.ensures.within rest.ensures.chain rest.ensures.changes;
      fits = rest.ensures.fit;
    }

pub apply_run-requires-clause-ready : goal.apply_run-requires-clause-ready
apply_run-requires-clause-ready g c = (c.args.cut, c.in_ok-make_ready.ensures.ready)

pub returns-in_err-make_ready-clause-most : goal.returns-in_err-make_ready-clause-most
returns-in_err-make_ready-clause-most g c = λ from counts. omega (arith, c.make_ready.ensures.most from counts, touched c.args.graph.now (c.args.position + 1) from)

pub returns-clause-turned : goal.returns-clause-turned
returns-clause-turned g c =
    let now = c.args.graph.now in
    let position = c.args.position in
    let state = c.apply_run.new.state in
    let all : position + c.count.result ≤ length now = omega (arith, c.rest_near-changes.ensures.within, c.count.ensures) in
    known_ok (GoesTo now c.args.cut position (position + c.count.result) state) c.apply_run.result (GoesTo now c.args.cut position (length now) state)
    (λ turns t. goes_wider now c.args.cut position (position + c.count.result) (length now) state turns all t) (c.apply_run.ensures.turned c.args.cut c.in_ok-make_ready.ensures.ready)

pub returns-clause-steps : goal.returns-clause-steps
returns-clause-steps g c = λ from counts.
    let now = c.args.graph.now in
    let position = c.args.position in
    let events = c.count.result in
    let rest = c.rest_near-changes in
    let run = run_told now position events (run_ops rest.result) c.count.ensures rest.ensures.some rest.ensures.within rest.ensures.chain rest.ensures.changes in
    let state = c.apply_run.new.state in
    let cut = c.args.cut in
    let low = counts_low cut position from c.requires.walked.behind.low counts in
    both_ok (GoesTo now cut position (position + events) state) (λ t. c.apply_run.new.steps + position ≡ c.make_ready.new.steps + judged_to t)
    (λ t. c.apply_run.new.steps + touches (take position now) from ≡ c.args.steps.now + touches (take (judged_to t) now) from) c.apply_run.result
    (λ t turned steps. let high = judged_going now cut position (position + events) state t turned in
    cost_of now c.count-count.ensures.admitted from position events (run_ops rest.result) run low c.args.steps.now c.make_ready.new.steps c.apply_run.new.steps (c.in_ok-make_ready.ensures.steps from counts) (judged_to t) high.0 high.1 steps)
    (c.apply_run.ensures.turned cut c.in_ok-make_ready.ensures.ready) c.apply_run.ensures.steps

pub returns-clause-most : goal.returns-clause-most
returns-clause-most g c = λ from counts.
    let now = c.args.graph.now in
    let rest = c.rest_near-changes in
    let run = run_told now c.args.position c.count.result (run_ops rest.result) c.count.ensures rest.ensures.some rest.ensures.within rest.ensures.chain rest.ensures.changes in
    let low = counts_low c.args.cut c.args.position from c.requires.walked.behind.low counts in
    most_cost now c.count-count.ensures.admitted from c.args.position c.count.result (run_ops rest.result) run low c.args.steps.now c.make_ready.new.steps c.apply_run.new.steps (c.in_ok-make_ready.ensures.steps from counts) c.apply_run.ensures.most
