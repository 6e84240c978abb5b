use Rattle.std.proofs.Common.{◌∙◌, ap}
use Rattle.ew_model.specs.Ids.{ids_ascend}
use Rattle.event_graph.proofs.Admitted.{let_in}
use Rattle.event_graph.proofs.graph.Graph.admit.Goals as goal

pub positions_of-requires : goal.positions_of-requires
positions_of-requires c = ap ids_ascend c.as_slice-parents.ensures ∙ (let_in c.args.self.now c.args.e.now c.requires.good).ascend
