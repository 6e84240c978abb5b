use Rattle.std.proofs.Common.{◌≡◌, ◌-◌, ◌<◌, length, Some, slice_get, sym, ap, ◌∙◌, arith}
use Rattle.std.proofs.lemmas.Option.{slice_get-get_or}
use Rattle.fugue_place.proofs.RunLaws.{run_within, last_more}
use Rattle.fugue_place.proofs.children.lengthen_last.Goals as goal

pub overflow_add-index_mut : goal.overflow_add-index_mut
overflow_add-index_mut c =
    let runs = c.args.runs.now.items in
    let at = c.len-count.result - 1 in
    let run = c.index_mut.result.now in
    let lt : at < length runs = omega (arith, c.len-count.ensures, c.args.runs.now.ok.0, c.if-count-gt0.true) in
    let there : slice_get runs at ≡ Some run = slice_get-get_or runs at run lt ∙ ap Some (sym c.index_mut.ensures.value) in
    let high = (run_within c.requires.0 runs 0 c.requires.1 at run c.requires.2 there).high in
    omega (arith, high, c.requires.3)

pub returns-then-count-gt0 : goal.returns-then-count-gt0
returns-then-count-gt0 c =
    last_more c.args.runs.now.items (c.len-count.result - 1) c.args.more c.index_mut.result.now (omega (arith, c.len-count.ensures, c.args.runs.now.ok.0, c.if-count-gt0.true)) c.index_mut.ensures.value
