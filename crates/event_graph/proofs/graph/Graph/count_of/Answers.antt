use Rattle.std.proofs.Common.{◌∙◌, ◌≤◌, List, length, ap, sym, subst}
use Rattle.std.proofs.lemmas.List.Sums.{count_by-le-length}
use Rattle.ew_model.specs.declared.id.Id.{Id}
use Rattle.ew_model.specs.declared.event.Event.{Event}
use Rattle.ew_model.specs.Ids.{name_eq}
use Rattle.history_definitions.specs.Agents.{count_of}
use Rattle.event_graph.specs.Keeping.{IsKeptOf}
use Rattle.event_graph.proofs.Summing.{same_count}
use Rattle.event_graph.proofs.graph.Graph.count_of.Goals as goal

pub returns-clause-count : goal.returns-clause-count
returns-clause-count c =
    let now = c.args.self.now in
    let inside = c.self.inside in
    let kept : IsKeptOf now inside.ids inside.events inside.heads inside.cuts = subst (λ (h : List Event). IsKeptOf h inside.ids inside.events inside.heads inside.cuts) c.self.view_is c.self.invariant in
    c.count_of.ensures.value ∙ ap (λ (ids : List Id). count_of ids c.args.agent.now) kept.ids_are ∙ same_count now c.args.agent.now

pub returns-clause-few : goal.returns-clause-few
returns-clause-few c =
    subst (λ n. n ≤ length c.args.self.now) (sym (returns-clause-count c)) (count_by-le-length (λ (e : Event). name_eq e.id.agent c.args.agent.now) c.args.self.now)
