use Rattle.std.proofs.Common.{◌≡◌, List, Option, Some, option_map, sym, ap, ◌∙◌}
use Rattle.ew_model.specs.declared.event.Event.{Event}
use Rattle.ew_model.specs.declared.id.Id.{Id}
use Rattle.ew_model.specs.Verdicts.{first_unknown}
use Rattle.blame_definitions.specs.Blame.{unknown_in}
use Rattle.blame.proofs.blame.blame_text.Goals as goal

-- where a version is named, its own ids count
named : {V : Type 0} (ids : V → List Id) (history held : List Event) (o : Option V) (v : V) → o ≡ Some v → history ≡ held → unknown_in held (option_map ids o) ≡ first_unknown history (ids v)
named ids history held o v is same = ap (λ k. unknown_in held (option_map ids k)) is ∙ ap (λ events. first_unknown events (ids v)) (sym same)

pub returns-in-Some-clause-unknown : goal.returns-in-Some-clause-unknown
returns-in-Some-clause-unknown g c x =
    let own = named _ c.graph-graph.result.now c.args.replica.now.held _ _ c.in-Some.is c.graph-graph.ensures.graph in
    ((λ e. own ∙ (c.blame_at.ensures.unknown x).0 e), (λ e. (c.blame_at.ensures.unknown x).1 (sym own ∙ e)))
