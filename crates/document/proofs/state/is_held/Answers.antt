use Rattle.std.proofs.Common.{◌∙◌, is_some, ap}
use Rattle.ew_model.specs.Ids.{id_eq}
use Rattle.ew_model.specs.Ancestors.{ids_of}
use Rattle.ew_model.proofs.ListParts.{is_some-position}
use Rattle.document.proofs.state.is_held.Goals as goal

pub returns : goal.returns
returns c = c.is_some.ensures ∙ ap is_some c.find.ensures.value ∙ is_some-position (id_eq c.args.id.now) (ids_of c.args.graph.now)
