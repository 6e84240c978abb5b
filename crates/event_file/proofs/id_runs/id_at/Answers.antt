use Rattle.std.proofs.Common.{◌-◌, ◌<◌, ◌≤◌, sym, arith}
use Rattle.event_file.proofs.IdRuns.{found_in, not_found, run_within}
use Rattle.event_file.proofs.id_runs.id_at.Goals as goal

pub returns-then-behind-run : goal.returns-then-behind-run
returns-then-behind-run c =
    let run = c.in_ok-run.run' in
    let far : run.more < c.args.position - run.start = omega (arith, c.if-behind-run.true) in
    sym (not_found c.args.runs.now c.args.position run c.requires c.in_ok-run.ensures.some far)

pub overflow_add-result : goal.overflow_add-result
overflow_add-result c =
    let run = c.in_ok-run.run' in
    let b = c.in_ok-run.ensures.some in
    let within = run_within c.args.runs.now 0 b.place run c.requires b.there in
    omega (arith, within, c.if-behind-run.false)

pub returns : goal.returns
returns c =
    let run = c.in_ok-run.run' in
    let near : c.args.position - run.start ≤ run.more = omega (arith, c.if-behind-run.false) in
    sym (found_in c.args.runs.now c.args.position run c.requires c.in_ok-run.ensures.some near)
