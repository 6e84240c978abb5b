use Rattle.std.proofs.Common.{◌∙◌, take, ap}
use Rattle.ew_model.specs.Cuts.{is_critical}
use Rattle.replica.proofs.Fronts.{front_takes}
use Rattle.replica.proofs.admit.extend.Goals as goal

pub truncate-requires : goal.truncate-requires
truncate-requires c = ap (is_critical c.grow.new.graph) c.count-held.ensures.count ∙ c.in-Err.ensures.still_cut

pub returns-in-Err-clause-same_graph : goal.returns-in-Err-clause-same_graph
returns-in-Err-clause-same_graph c = c.truncate.ensures ∙ ap (λ n. take n c.grow.new.graph) c.count-held.ensures.count ∙ front_takes c.args.graph.now c.grow.new.graph c.in-Err.ensures.front
