use Rattle.std.proofs.Common.{◌≡◌, ◌∙◌, ◌+◌, Some}
use Rattle.ew_model.specs.Ancestors.{ids_of}
use Rattle.event_graph.proofs.Numbers.{numbered_ids}
use Rattle.stored_histories.proofs.IdRuns.{all_between}
use Rattle.stored_histories.proofs.written.stands_behind.Goals as goal

pub returns-in-Some : goal.returns-in-Some
returns-in-Some c there =
    let first = c.args.first.now in
    let seq : c.in-Some.seq ≡ first.seq + c.args.more = c.in-Some.ensures.1 in
    all_between (ids_of c.args.graph.now) c.args.position c.args.more first (numbered_ids c.args.graph.now c.count-count.ensures.admitted) c.requires.first
    (c.is_at.ensures there ∙ (λ i. Some (record { agent = first.agent; seq = seq i })))
