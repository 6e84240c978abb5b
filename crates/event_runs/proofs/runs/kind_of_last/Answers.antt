use Rattle.std.proofs.Common.{◌≡◌, ◌-◌, length, Some, slice_get, sym, arith}
use Rattle.event_runs.proofs.RunEvents.{run_within}
use Rattle.event_runs.proofs.runs.kind_of_last.Goals as goal

pub overflow_add-run : goal.overflow_add-run
overflow_add-run c =
    let there : slice_get c.args.runs.now (length c.args.runs.now - 1) ≡ Some c.in_ok-run.run'.now = sym c.in_ok-run.ensures.value in
    let high = (run_within c.args.runs.now c.requires.0 0 0 c.requires.1 c.requires.2 (length c.args.runs.now - 1) c.in_ok-run.run'.now c.requires.3 there).high in
    let small = c.requires.4 in omega (arith, high, small)
