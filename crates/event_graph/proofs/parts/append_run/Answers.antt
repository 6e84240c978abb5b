use Rattle.std.proofs.Common.{◌∙◌, ◌++◌, take, sym, ap}
use Rattle.std.proofs.Math.Seq.{take-append_seam}
use Rattle.history_definitions.specs.Chains.{next_id}
use Rattle.agent_ids.specs.IdRuns.{ids_from}
use Rattle.event_graph.proofs.parts.append_run.Goals as goal

pub returns-in-Err-clause-same_ids : goal.returns-in-Err-clause-same_ids
returns-in-Err-clause-same_ids c =
    let ids = c.args.ids.now in
    let more = c.in_ok-append_next_run.ensures.ok in
    let rest = ids_from (next_id more.0) c.count.result in
    c.truncate.ensures ∙ ap (take c.count-count.result) more.2
    ∙ ap (λ n. take n (ids ++ rest)) (c.count-count.ensures.count ∙ sym c.requires.alike) ∙ take-append_seam ids rest
