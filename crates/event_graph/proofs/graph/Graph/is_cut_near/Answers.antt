use Rattle.std.proofs.Common.{◌∙◌, List, subst}
use Rattle.ew_model.specs.declared.event.Event.{Event}
use Rattle.event_graph.specs.Keeping.{IsKeptOf}
use Rattle.event_graph.proofs.Kept.{agreement}
use Rattle.ew_model.specs.Positions.{parent_positions}
use Rattle.event_graph.proofs.graph.Graph.is_cut_near.Goals as goal

pub returns : goal.returns
returns c =
    let now = c.args.self.now in
    let inside = c.self.inside in
    let kept : IsKeptOf now inside.ids inside.events inside.heads inside.cuts = subst (λ (h : List Event). IsKeptOf h inside.ids inside.events inside.heads inside.cuts) c.self.view_is c.self.invariant in
    c.is_cut_near.ensures (parent_positions now) kept.cuts_are ∙ (agreement now inside.ids inside.events inside.heads inside.cuts kept).cut c.args.k
