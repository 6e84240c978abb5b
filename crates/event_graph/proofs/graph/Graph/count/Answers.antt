use Rattle.std.proofs.Common.{◌∙◌, List, subst}
use Rattle.ew_model.specs.declared.event.Event.{Event}
use Rattle.event_graph.specs.Keeping.{IsKeptOf}
use Rattle.event_graph.proofs.Kept.{length_events}
use Rattle.event_graph.proofs.graph.Graph.count.Goals as goal

pub returns-clause-count : goal.returns-clause-count
returns-clause-count c =
    let now = c.args.self.now in
    let inside = c.self.inside in
    let kept : IsKeptOf now inside.ids inside.events inside.heads inside.cuts = subst (λ (h : List Event). IsKeptOf h inside.ids inside.events inside.heads inside.cuts) c.self.view_is c.self.invariant in
    c.count.ensures.count ∙ length_events now inside.ids inside.events inside.heads inside.cuts kept

pub returns-clause-admitted : goal.returns-clause-admitted
returns-clause-admitted c =
    let now = c.args.self.now in
    let inside = c.self.inside in
    let kept : IsKeptOf now inside.ids inside.events inside.heads inside.cuts = subst (λ (h : List Event). IsKeptOf h inside.ids inside.events inside.heads inside.cuts) c.self.view_is c.self.invariant in
    kept.admitted

pub returns-clause-sound : goal.returns-clause-sound
returns-clause-sound c =
    let now = c.args.self.now in
    let inside = c.self.inside in
    let kept : IsKeptOf now inside.ids inside.events inside.heads inside.cuts = subst (λ (h : List Event). IsKeptOf h inside.ids inside.events inside.heads inside.cuts) c.self.view_is c.self.invariant in
    kept.sound
