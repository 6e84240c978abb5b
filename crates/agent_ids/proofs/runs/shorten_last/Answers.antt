use Rattle.std.proofs.Common.{◌≡◌, ◌∙◌, ◌-◌, suc, length, take, slice_set, sym, ap, arith}
use Rattle.std.proofs.lemmas.List.{get_or_read}
use Rattle.agent_ids.specs.declared.runs.IdRun.{IdRun}
use Rattle.agent_ids.proofs.RunLists.{last_shorter, last_gone}
use Rattle.agent_ids.proofs.runs.shorten_last.Goals as goal

pub returns-then-start-place : goal.returns-then-start-place
returns-then-start-place c =
    let runs = c.args.runs.now.items in
    let at = c.len-count.result - 1 in
    let long : length runs ≡ suc at = omega (arith, c.len-count.ensures, c.args.runs.now.ok.0, c.if-count-gt0.true) in
    let same : c.index_mut.result.now ≡ c.index.result.now = get_or_read runs at c.index_mut.result.now (omega (arith, long)) c.index_mut.ensures.value c.index.result.now ∙ sym c.index.ensures in
    let start : c.index_mut.result.now.start ≡ c.index.result.now.start = ap (λ (r : IdRun). r.start) same in
    ap (λ k. slice_set runs at (record { start = c.index_mut.result.now.start; agent = c.index_mut.result.now.agent; seq = c.index_mut.result.now.seq; more = c.args.place - 1 - k })) (sym start)
    ∙ last_shorter runs c.args.place at c.index_mut.result.now long c.index_mut.ensures.value (omega (arith, start, c.if-start-place.true))

pub returns-else-start-place : goal.returns-else-start-place
returns-else-start-place c =
    let runs = c.args.runs.now.items in
    let at = c.len-count.result - 1 in
    let long : length runs ≡ suc at = omega (arith, c.len-count.ensures, c.args.runs.now.ok.0, c.if-count-gt0.true) in
    c.pop.ensures.rest ∙ ap (λ n. take (n - 1) runs) (sym c.len-count.ensures) ∙ last_gone runs c.args.place at c.index.result.now long c.index.ensures c.if-start-place.false
