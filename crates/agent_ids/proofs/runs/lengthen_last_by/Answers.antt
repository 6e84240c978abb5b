use Rattle.std.proofs.Common.{◌≡◌, ◌-◌, ◌<◌, length, Some, slice_get, sym, ap, ◌∙◌, arith}
use Rattle.std.proofs.lemmas.Option.{slice_get-get_or}
use Rattle.agent_ids.proofs.RunLists.{run_within, last_more_by}
use Rattle.agent_ids.proofs.runs.lengthen_last_by.Goals as goal

pub overflow_add-index_mut : goal.overflow_add-index_mut
overflow_add-index_mut c =
    let runs = c.args.runs.now.items in
    let place = c.len-count.result - 1 in
    let run = c.index_mut.result.now in
    let l : place < length runs = omega (arith, c.len-count.ensures, c.args.runs.now.ok.0, c.if-count-gt0.true) in
    let there : slice_get runs place ≡ Some run = slice_get-get_or runs place run l ∙ ap Some (sym c.index_mut.ensures.value) in
    let within = run_within runs 0 c.requires.0 place run c.requires.1 there in omega (arith, within, c.requires.2)

pub returns-then-count-gt0 : goal.returns-then-count-gt0
returns-then-count-gt0 c =
    last_more_by c.args.runs.now.items (c.len-count.result - 1) c.args.more c.index_mut.result.now (omega (arith, c.len-count.ensures, c.args.runs.now.ok.0, c.if-count-gt0.true)) c.index_mut.ensures.value
