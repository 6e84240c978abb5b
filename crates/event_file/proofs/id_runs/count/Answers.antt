use Rattle.std.proofs.Common.{◌≡◌, ◌+◌, ◌-◌, suc, length, sym, arith}
use Rattle.event_file.specs.IdRuns.{short_ids}
use Rattle.event_file.proofs.IdRuns.{last_ends}
use Rattle.event_file.proofs.id_runs.count.Goals.{In-Some}
use Rattle.event_file.proofs.id_runs.count.Goals as goal

ends : (c : In-Some) → c.in-Some.run'.now.start + suc c.in-Some.run'.now.more ≡ length (short_ids c.args.runs.now)
ends c =
    let runs = c.args.runs.now in
    let some = c.in-Some.ensures.item.3.0 in
    let all = last_ends runs 0 (length runs - 1) c.in-Some.run'.now c.requires.runs (omega (arith, some)) (sym c.in-Some.ensures.value) in
    omega (arith, all)

pub overflow_add-result : goal.overflow_add-result
overflow_add-result c = omega (arith, ends c, c.requires.few)

pub overflow_add-result-in-Some : goal.overflow_add-result-in-Some
overflow_add-result-in-Some c = omega (arith, ends c, c.requires.few)

pub returns-in-Some : goal.returns-in-Some
returns-in-Some c = omega (arith, ends c)
