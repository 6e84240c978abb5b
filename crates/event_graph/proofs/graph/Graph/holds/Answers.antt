use Rattle.std.proofs.Common.{◌∙◌, is_some, ap}
use Rattle.ew_model.specs.Ids.{id_eq}
use Rattle.ew_model.specs.Ancestors.{ids_of}
use Rattle.event_graph.proofs.graph.Graph.holds.Goals as goal
use Rattle.ew_model.proofs.ListParts.{is_some-position}

pub returns : goal.returns
returns c = c.is_some.ensures ∙ ap is_some c.find.ensures.value ∙ is_some-position (id_eq c.args.id.now) (ids_of c.args.self.now)
