use Rattle.std.proofs.Common.{◌∙◌, List, sym, ap}
use Rattle.ew_model.specs.declared.event.Event.{Event}
use Rattle.ew_model.specs.Verdicts.{first_unknown}
use Rattle.caret_places.proofs.held.caret_at.Goals as goal

pub returns-clause-unknown : goal.returns-clause-unknown
returns-clause-unknown g c x =
    let same = ap (λ (held : List Event). first_unknown held c.args.version.now) c.graph.ensures.graph in
    let unknown = c.caret_in_version.ensures.unknown x in
    ((λ e. sym same ∙ unknown.0 e), (λ e. unknown.1 (same ∙ e)))
