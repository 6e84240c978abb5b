use Rattle.std.proofs.Common.{◌≡◌, List, Some, slice_get, subst, arith}
use Rattle.ew_model.specs.declared.id.Id.{Id}
use Rattle.ew_model.specs.declared.event.Event.{Event}
use Rattle.event_graph.specs.Keeping.{IsKeptOf}
use Rattle.event_graph.proofs.Kept.{length_ids}
use Rattle.event_graph.proofs.graph.Graph.id_near.Goals as goal

pub id_near-requires : goal.id_near-requires
id_near-requires c =
    let now = c.args.self.now in
    let inside = c.self.inside in
    let kept : IsKeptOf now inside.ids inside.events inside.heads inside.cuts = subst (λ (h : List Event). IsKeptOf h inside.ids inside.events inside.heads inside.cuts) c.self.view_is c.self.invariant in
    omega (arith, c.requires, length_ids now inside.ids inside.events inside.heads inside.cuts kept)

pub returns : goal.returns
returns c =
    let now = c.args.self.now in
    let inside = c.self.inside in
    let kept : IsKeptOf now inside.ids inside.events inside.heads inside.cuts = subst (λ (h : List Event). IsKeptOf h inside.ids inside.events inside.heads inside.cuts) c.self.view_is c.self.invariant in
    subst (λ (ids : List Id). slice_get ids c.args.position ≡ Some c.id_near.result) kept.ids_are c.id_near.ensures
