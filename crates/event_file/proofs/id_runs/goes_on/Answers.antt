use Rattle.std.proofs.Common.{◌-◌, length, sym, arith}
use Rattle.event_file.proofs.IdRuns.{run_within}
use Rattle.event_file.proofs.id_runs.goes_on.Goals as goal

pub overflow_add-last : goal.overflow_add-last
overflow_add-last c =
    let runs = c.args.runs.now in
    let within = run_within runs 0 (length runs - 1) c.in-Some.run'.now c.requires (sym c.in-Some.ensures.value) in
    omega (arith, within)
