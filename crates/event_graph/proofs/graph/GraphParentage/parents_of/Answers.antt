use Rattle.std.proofs.Common.{◌∙◌, ℕ, List, ap, subst, arith}
use Rattle.ew_model.specs.declared.event.Event.{Event}
use Rattle.event_graph.specs.Keeping.{IsKeptOf}
use Rattle.event_graph.proofs.Kept.{length_events, length_parents, parents_are}
use Rattle.ew_model.specs.Positions.{parents_at}
use Rattle.event_graph.proofs.graph.GraphParentage.parents_of.Goals as goal

pub parents_at-requires : goal.parents_at-requires
parents_at-requires c =
    let now = c.args.self.now in
    let inside = c.self.inside in
    let kept : IsKeptOf now inside.ids inside.events inside.heads inside.cuts = subst (λ (h : List Event). IsKeptOf h inside.ids inside.events inside.heads inside.cuts) c.self.view_is c.self.invariant in
    omega (arith, c.requires, length_events now inside.ids inside.events inside.heads inside.cuts kept, length_parents now inside.ids inside.events inside.heads inside.cuts kept)

pub returns-clause-value : goal.returns-clause-value
returns-clause-value c =
    let now = c.args.self.now in
    let inside = c.self.inside in
    let kept : IsKeptOf now inside.ids inside.events inside.heads inside.cuts = subst (λ (h : List Event). IsKeptOf h inside.ids inside.events inside.heads inside.cuts) c.self.view_is c.self.invariant in
    c.parents_at.ensures.value ∙ ap (λ (lists : List (List ℕ)). parents_at lists c.args.lv) (parents_are now inside.ids inside.events inside.heads inside.cuts kept)
