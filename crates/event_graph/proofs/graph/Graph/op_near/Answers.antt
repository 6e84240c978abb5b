use Rattle.std.proofs.Common.{◌≡◌, List, Some, slice_get, subst, arith}
use Rattle.ew_model.specs.declared.event.Op.{Op}
use Rattle.ew_model.specs.declared.event.Event.{Event}
use Rattle.event_graph.specs.Keeping.{IsKeptOf}
use Rattle.event_graph.proofs.Kept.{length_events, ops_are}
use Rattle.event_graph.proofs.graph.Graph.op_near.Goals as goal

pub op_near-requires : goal.op_near-requires
op_near-requires c =
    let now = c.args.self.now in
    let inside = c.self.inside in
    let kept : IsKeptOf now inside.ids inside.events inside.heads inside.cuts = subst (λ (h : List Event). IsKeptOf h inside.ids inside.events inside.heads inside.cuts) c.self.view_is c.self.invariant in
    omega (arith, c.requires, length_events now inside.ids inside.events inside.heads inside.cuts kept)

pub returns : goal.returns
returns c =
    let now = c.args.self.now in
    let inside = c.self.inside in
    let kept : IsKeptOf now inside.ids inside.events inside.heads inside.cuts = subst (λ (h : List Event). IsKeptOf h inside.ids inside.events inside.heads inside.cuts) c.self.view_is c.self.invariant in
    subst (λ (ops : List Op). slice_get ops c.args.position ≡ Some c.op_near.result) (ops_are now inside.ids inside.events inside.heads inside.cuts kept) c.op_near.ensures
