use Rattle.std.proofs.Common.{◌≡◌, ◌-◌, ◌<◌, length, Some, slice_get, slice_set, sym, ap, ◌∙◌, arith}
use Rattle.std.proofs.lemmas.Option.{slice_get-get_or, same_Some}
use Rattle.event_runs.specs.Steps.{longer_by}
use Rattle.event_runs.proofs.RunEvents.{run_within}
use Rattle.event_runs.proofs.runs.lengthen_last_by.Goals as goal

pub overflow_add-run : goal.overflow_add-run
overflow_add-run c =
    let runs = c.args.runs.now.items in
    let place = c.len-count.result - 1 in
    let run = c.index-run.result.now in
    let l : place < length runs = omega (arith, c.len-count.ensures, c.args.runs.now.ok.0, c.if-count-gt0.true) in
    let there : slice_get runs place ≡ Some run = slice_get-get_or runs place run l ∙ ap Some (sym c.index-run.ensures) in
    let high = (run_within runs c.requires.0 0 0 c.requires.1 c.requires.2 place run c.requires.3 there).high in
    let small = c.requires.4 in omega (arith, high, small)

pub returns-then-count-gt0 : goal.returns-then-count-gt0
returns-then-count-gt0 c = λ place r long at.
    let runs = c.args.runs.now.items in
    let run = c.index-run.result.now in
    let here : c.len-count.result - 1 ≡ place = omega (arith, c.len-count.ensures, c.args.runs.now.ok.0, long) in
    let l : place < length runs = omega (arith, long) in
    let read : run ≡ r = same_Some run r (ap Some (c.index-run.ensures ∙ ap (λ n. Rattle.std.proofs.Common.get_or runs n run) here) ∙ sym (slice_get-get_or runs place run l) ∙ at) in
    λ i. slice_set runs (here i) (longer_by (read i) c.args.more)
