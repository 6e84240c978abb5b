use Rattle.std.proofs.Common.{◌≡◌, ℕ, List, subst, arith}
use Rattle.ew_model.specs.declared.event.Event.{Event}
use Rattle.ew_model.specs.Positions.{parents_at}
use Rattle.frontier.specs.Chains.{IsChain}
use Rattle.event_graph.specs.Keeping.{IsKeptOf}
use Rattle.event_graph.proofs.Kept.{length_events, length_parents, parents_are}
use Rattle.event_graph.proofs.graph.Graph.chain_in_runs.Goals as goal

pub chain_at-requires : goal.chain_at-requires
chain_at-requires c =
    let now = c.args.self.now in
    let inside = c.self.inside in
    let kept : IsKeptOf now inside.ids inside.events inside.heads inside.cuts = subst (λ (h : List Event). IsKeptOf h inside.ids inside.events inside.heads inside.cuts) c.self.view_is c.self.invariant in
    omega (arith, c.requires, length_events now inside.ids inside.events inside.heads inside.cuts kept, length_parents now inside.ids inside.events inside.heads inside.cuts kept)

pub returns-clause-chain : goal.returns-clause-chain
returns-clause-chain c =
    let now = c.args.self.now in
    let inside = c.self.inside in
    let kept : IsKeptOf now inside.ids inside.events inside.heads inside.cuts = subst (λ (h : List Event). IsKeptOf h inside.ids inside.events inside.heads inside.cuts) c.self.view_is c.self.invariant in
    subst (λ (lists : List (List ℕ)). IsChain lists c.chain_at.result.first c.args.lv) (parents_are now inside.ids inside.events inside.heads inside.cuts kept) c.chain_at.ensures.chain

pub returns-clause-value : goal.returns-clause-value
returns-clause-value c =
    let now = c.args.self.now in
    let inside = c.self.inside in
    let kept : IsKeptOf now inside.ids inside.events inside.heads inside.cuts = subst (λ (h : List Event). IsKeptOf h inside.ids inside.events inside.heads inside.cuts) c.self.view_is c.self.invariant in
    subst (λ (lists : List (List ℕ)). c.chain_at.result.parents.now ≡ parents_at lists c.chain_at.result.first) (parents_are now inside.ids inside.events inside.heads inside.cuts kept) c.chain_at.ensures.value
