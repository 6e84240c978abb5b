use Rattle.std.proofs.Common.{ℕ, List, subst}
use Rattle.ew_model.specs.declared.event.Event.{Event}
use Rattle.event_runs.specs.BareEvents.{BareEvent}
use Rattle.event_runs.specs.Runs.{IsRunStart}
use Rattle.frontier.specs.Chains.{IsChain}
use Rattle.event_graph.specs.Keeping.{IsKeptOf}
use Rattle.event_graph.proofs.Kept.{parents_are}
use Rattle.event_graph.proofs.graph.Graph.chain_start_near.Goals as goal

pub returns-clause-chain : goal.returns-clause-chain
returns-clause-chain c =
    let now = c.args.self.now in
    let inside = c.self.inside in
    let kept : IsKeptOf now inside.ids inside.events inside.heads inside.cuts = subst (λ (h : List Event). IsKeptOf h inside.ids inside.events inside.heads inside.cuts) c.self.view_is c.self.invariant in
    subst (λ (lists : List (List ℕ)). IsChain lists c.chain_start_near.result c.args.position) (parents_are now inside.ids inside.events inside.heads inside.cuts kept) c.chain_start_near.ensures.chain

pub returns-clause-start : goal.returns-clause-start
returns-clause-start c =
    let now = c.args.self.now in
    let inside = c.self.inside in
    let kept : IsKeptOf now inside.ids inside.events inside.heads inside.cuts = subst (λ (h : List Event). IsKeptOf h inside.ids inside.events inside.heads inside.cuts) c.self.view_is c.self.invariant in
    subst (λ (events : List BareEvent). IsRunStart events c.args.position c.chain_start_near.result) kept.events_are c.chain_start_near.ensures.start
