use Rattle.std.proofs.Common.{◌∙◌, ◌<◌, List, position, ap, subst}
use Rattle.ew_model.specs.declared.event.Event.{Event}
use Rattle.event_graph.specs.Keeping.{IsKeptOf}
use Rattle.event_graph.proofs.Kept.{length_ids}
use Rattle.std.proofs.Common.{IfSome}
use Rattle.ew_model.specs.Ids.{id_eq}
use Rattle.event_graph.proofs.graph.Graph.find.Goals as goal

pub returns-clause-value : goal.returns-clause-value
returns-clause-value c =
    let now = c.args.self.now in
    let inside = c.self.inside in
    let kept : IsKeptOf now inside.ids inside.events inside.heads inside.cuts = subst (λ (h : List Event). IsKeptOf h inside.ids inside.events inside.heads inside.cuts) c.self.view_is c.self.invariant in
    c.position.ensures.value ∙ ap (position (id_eq c.args.id.now)) kept.ids_are

pub returns-clause-within : goal.returns-clause-within
returns-clause-within c =
    let now = c.args.self.now in
    let inside = c.self.inside in
    let kept : IsKeptOf now inside.ids inside.events inside.heads inside.cuts = subst (λ (h : List Event). IsKeptOf h inside.ids inside.events inside.heads inside.cuts) c.self.view_is c.self.invariant in
    subst (λ n. IfSome c.position.result (λ p. p < n)) (length_ids now inside.ids inside.events inside.heads inside.cuts kept) c.position.ensures.within
