use Rattle.std.proofs.Common.{◌≡◌, ◌∙◌, ◌+◌, suc, take, arith, length, slice_get, Some, refl, sym, ap}
use Rattle.std.proofs.lemmas.Option.{slice_get_read}
use Rattle.indexmap.specs.IndexMap.{insert_entry}
use Rattle.ew_model.specs.Ids.{name_eq}
use Rattle.agent_ids.proofs.Agents.{names_tested}
use Rattle.event_graph.proofs.Counted.{added}
use Rattle.event_graph.proofs.missing.by_agent.Goals as goal

pub loop-own-preserved : goal.loop-own-preserved
loop-own-preserved c =
    let counts = c.args.counts.now in
    let place = c.loop-own.own-index in
    let own = c.own-item.result in
    let there : slice_get counts place ≡ Some own = slice_get_read counts (length counts) place own refl c.loop-own-test.true c.own-item.is in
    let next : suc place ≡ place + 1 = omega arith in
    c.in_ok-insert.ensures.entries
    ∙ ap (λ eq. insert_entry eq c.loop-own.counted.entries own.0 own.1) (sym names_tested)
    ∙ ap (λ es. insert_entry name_eq es own.0 own.1) c.loop-own.invariant
    ∙ added counts place own c.requires there
    ∙ ap (λ n. take n counts) next
