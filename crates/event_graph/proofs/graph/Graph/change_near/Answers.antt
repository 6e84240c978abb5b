use Rattle.std.proofs.Common.{◌≡◌, List, Some, map, slice_get, subst, arith}
use Rattle.ew_model.proofs.RecordLaws.{map_map}
use Rattle.ew_model.specs.declared.event.Op.{Op}
use Rattle.ew_model.specs.declared.event.Event.{Event}
use Rattle.ew_model.specs.declared.text_op.TextOp.{TextOp}
use Rattle.ew_model.specs.TextLaws.{own_change}
use Rattle.event_graph.specs.Keeping.{IsKeptOf}
use Rattle.event_graph.proofs.Kept.{length_events, ops_are}
use Rattle.event_graph.proofs.graph.Graph.change_near.Goals as goal

pub change_near-requires : goal.change_near-requires
change_near-requires c =
    let now = c.args.self.now in
    let inside = c.self.inside in
    let kept : IsKeptOf now inside.ids inside.events inside.heads inside.cuts = subst (λ (h : List Event). IsKeptOf h inside.ids inside.events inside.heads inside.cuts) c.self.view_is c.self.invariant in
    omega (arith, c.requires, length_events now inside.ids inside.events inside.heads inside.cuts kept)

pub returns : goal.returns
returns c =
    let now = c.args.self.now in
    let inside = c.self.inside in
    let kept : IsKeptOf now inside.ids inside.events inside.heads inside.cuts = subst (λ (h : List Event). IsKeptOf h inside.ids inside.events inside.heads inside.cuts) c.self.view_is c.self.invariant in
    subst (λ (changes : List TextOp). slice_get changes c.args.position ≡ Some c.change_near.result) (map_map (λ (e : Event). e.op) own_change now)
    (subst (λ (ops : List Op). slice_get (map own_change ops) c.args.position ≡ Some c.change_near.result) (ops_are now inside.ids inside.events inside.heads inside.cuts kept) c.change_near.ensures)
