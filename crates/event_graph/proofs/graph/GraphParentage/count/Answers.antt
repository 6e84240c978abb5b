use Rattle.std.proofs.Common.{◌∙◌, sym}
use Rattle.ew_model.specs.declared.event.Event.{Event}
use Rattle.std.proofs.lemmas.List.{length-map}
use Rattle.ew_model.specs.Positions.{positions_in}
use Rattle.event_graph.proofs.Admitted.{agrees}
use Rattle.event_graph.proofs.graph.GraphParentage.count.Goals as goal

pub returns-clause-count : goal.returns-clause-count
returns-clause-count c = c.count.ensures.count ∙ sym (length-map c.args.self.now (λ (e : Event). positions_in c.args.self.now e.parents))

pub returns-clause-history : goal.returns-clause-history
returns-clause-history c = (agrees c.args.self.now c.count.ensures.admitted).parents
