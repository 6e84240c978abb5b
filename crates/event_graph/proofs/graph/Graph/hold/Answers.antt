use Rattle.std.proofs.Common.{◌∙◌, List, sym, ap, subst}
use Rattle.ew_model.specs.declared.event.Event.{Event}
use Rattle.event_graph.specs.Keeping.{IsKeptOf}
use Rattle.event_graph.specs.Tails.{hold_of}
use Rattle.event_graph.proofs.Kept.{length_events}
use Rattle.event_graph.proofs.graph.Graph.hold.Goals as goal

pub returns-clause-hold : goal.returns-clause-hold
returns-clause-hold c =
    let now = c.args.self.now in
    let inside = c.self.inside in
    let kept : IsKeptOf now inside.ids inside.events inside.heads inside.cuts = subst (λ (h : List Event). IsKeptOf h inside.ids inside.events inside.heads inside.cuts) c.self.view_is c.self.invariant in
    let count = c.count.ensures.count ∙ length_events now inside.ids inside.events inside.heads inside.cuts kept in
    let heads = c.in_ok-copy.ensures ∙ kept.heads_are in
    let cuts = c.in_ok-copy-2.ensures.copy ∙ kept.cuts_are in
    (λ i. record { count = count i; heads = heads i; cuts = cuts i }) ∙ ap hold_of (sym c.self.view_is)
