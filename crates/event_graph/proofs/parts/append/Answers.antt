use Rattle.std.proofs.Common.{◌∙◌, ◌++◌, ◌∷◌, [], take, sym, ap}
use Rattle.std.proofs.Math.Seq.{take-append_seam}
use Rattle.event_graph.proofs.parts.append.Goals as goal

pub returns-in-Err-clause-same_ids : goal.returns-in-Err-clause-same_ids
returns-in-Err-clause-same_ids c =
    let ids = c.args.ids.now in
    let x = c.requires.some.0 in
    c.truncate.ensures ∙ ap (take c.count-count.result) (c.in_ok-append_id.ensures.ok x c.requires.some.1)
    ∙ ap (λ n. take n (ids ++ x ∷ [])) (c.count-count.ensures.count ∙ sym c.requires.alike) ∙ take-append_seam ids (x ∷ [])
