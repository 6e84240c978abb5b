use Rattle.std.proofs.Common.{◌-◌, length, sym, arith}
use Rattle.event_file.proofs.IdRuns.{last_found, last_ends, run_within}
use Rattle.event_file.proofs.id_runs.last_id.Goals as goal

pub overflow_add-result : goal.overflow_add-result
overflow_add-result c =
    let runs = c.args.runs.now in
    let some = c.in-Some.ensures.item.3.0 in
    let all = last_ends runs 0 (length runs - 1) c.in-Some.run'.now c.requires.runs (omega (arith, some)) (sym c.in-Some.ensures.value) in
    omega (arith, all, c.requires.few)

pub overflow_add-result-in-Some : goal.overflow_add-result-in-Some
overflow_add-result-in-Some c =
    let runs = c.args.runs.now in
    let within = run_within runs 0 (length runs - 1) c.in-Some.run'.now c.requires.runs (sym c.in-Some.ensures.value) in
    omega (arith, within)

pub returns-in-Some : goal.returns-in-Some
returns-in-Some c = sym (last_found c.args.runs.now c.in-Some.run'.now c.requires.runs (sym c.in-Some.ensures.value))
