use Rattle.std.proofs.Common.{◌≡◌, ◌∙◌}
use Rattle.ew_model.specs.Ancestors.{heads}
use Rattle.ew_model.specs.Ids.{id_cmp}
use Rattle.ew_model.specs.Sorting.{sort_by}
use Rattle.replica.specs.Appending.{chain_from}
use Rattle.replica.proofs.Chains.{first_by}
use Rattle.replica.proofs.made.event_by.Goals as goal

pub returns : goal.returns
returns c ops =
    let parents : c.from_vec.result ≡ sort_by id_cmp (heads c.args.graph.now) = c.from_vec.ensures ∙ c.in_ok-heads.ensures in
    (λ i. chain_from (record { id = record { agent = c.args.agent; seq = c.count_of-seq.ensures.count i }; parents = parents i; op = c.args.op }) ops)
    ∙ first_by c.args.graph.now c.args.agent c.args.op ops
