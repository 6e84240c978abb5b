use Rattle.std.proofs.Common.{◌<◌, ℕ, List, length, sym, subst}
use Rattle.ew_model.specs.declared.event.Event.{Event}
use Rattle.frontier.specs.Chains.{IsChain}
use Rattle.event_graph.specs.Keeping.{IsKeptOf}
use Rattle.event_graph.proofs.Kept.{parents_are}
use Rattle.event_graph.proofs.graph.GraphParentage.chain_start.Goals as goal

pub chain_start-requires : goal.chain_start-requires
chain_start-requires c =
    let now = c.args.self.now in
    let inside = c.self.inside in
    let kept : IsKeptOf now inside.ids inside.events inside.heads inside.cuts = subst (λ (h : List Event). IsKeptOf h inside.ids inside.events inside.heads inside.cuts) c.self.view_is c.self.invariant in
    subst (λ (lists : List (List ℕ)). c.args.lv < length lists) (sym (parents_are now inside.ids inside.events inside.heads inside.cuts kept)) c.requires

pub returns : goal.returns
returns c =
    let now = c.args.self.now in
    let inside = c.self.inside in
    let kept : IsKeptOf now inside.ids inside.events inside.heads inside.cuts = subst (λ (h : List Event). IsKeptOf h inside.ids inside.events inside.heads inside.cuts) c.self.view_is c.self.invariant in
    subst (λ (lists : List (List ℕ)). IsChain lists c.chain_start.result c.args.lv) (parents_are now inside.ids inside.events inside.heads inside.cuts kept) c.chain_start.ensures.chain
