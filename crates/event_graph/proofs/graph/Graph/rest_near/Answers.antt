use Rattle.std.proofs.Common.{◌≡◌, ℕ, ◌+◌, ◌-◌, List, length, map, slice_get, subst, arith}
use Rattle.ew_model.proofs.RecordLaws.{map_map}
use Rattle.ew_model.specs.declared.event.Op.{Op}
use Rattle.ew_model.specs.declared.event.Event.{Event}
use Rattle.ew_model.specs.declared.text_op.TextOp.{TextOp}
use Rattle.ew_model.specs.TextLaws.{own_change}
use Rattle.event_runs.specs.BareEvents.{BareEvent}
use Rattle.event_runs.specs.Runs.{IsRunEnd}
use Rattle.frontier.specs.Chains.{IsChain}
use Rattle.operation_runs.specs.Runs.{run_ops}
use Rattle.event_graph.specs.Keeping.{IsKeptOf}
use Rattle.event_graph.proofs.Kept.{length_events, ops_are, parents_are}
use Rattle.event_graph.proofs.graph.Graph.rest_near.Goals as goal

pub rest_near-requires : goal.rest_near-requires
rest_near-requires c =
    let now = c.args.self.now in
    let inside = c.self.inside in
    let kept : IsKeptOf now inside.ids inside.events inside.heads inside.cuts = subst (λ (h : List Event). IsKeptOf h inside.ids inside.events inside.heads inside.cuts) c.self.view_is c.self.invariant in
    omega (arith, c.requires, length_events now inside.ids inside.events inside.heads inside.cuts kept)

pub returns-clause-within : goal.returns-clause-within
returns-clause-within c =
    let now = c.args.self.now in
    let inside = c.self.inside in
    let kept : IsKeptOf now inside.ids inside.events inside.heads inside.cuts = subst (λ (h : List Event). IsKeptOf h inside.ids inside.events inside.heads inside.cuts) c.self.view_is c.self.invariant in
    omega (arith, c.rest_near.ensures.within, length_events now inside.ids inside.events inside.heads inside.cuts kept)

pub returns-clause-changes : goal.returns-clause-changes
returns-clause-changes c = λ k low.
    let now = c.args.self.now in
    let inside = c.self.inside in
    let kept : IsKeptOf now inside.ids inside.events inside.heads inside.cuts = subst (λ (h : List Event). IsKeptOf h inside.ids inside.events inside.heads inside.cuts) c.self.view_is c.self.invariant in
    subst (λ (changes : List TextOp). slice_get changes (c.args.position + k) ≡ slice_get (run_ops c.rest_near.result) k) (map_map (λ (e : Event). e.op) own_change now)
    (subst (λ (ops : List Op). slice_get (map own_change ops) (c.args.position + k) ≡ slice_get (run_ops c.rest_near.result) k) (ops_are now inside.ids inside.events inside.heads inside.cuts kept) (c.rest_near.ensures.changes k low))

pub returns-clause-chain : goal.returns-clause-chain
returns-clause-chain c =
    let now = c.args.self.now in
    let inside = c.self.inside in
    let kept : IsKeptOf now inside.ids inside.events inside.heads inside.cuts = subst (λ (h : List Event). IsKeptOf h inside.ids inside.events inside.heads inside.cuts) c.self.view_is c.self.invariant in
    subst (λ (lists : List (List ℕ)). IsChain lists c.args.position (c.args.position + length (run_ops c.rest_near.result) - 1)) (parents_are now inside.ids inside.events inside.heads inside.cuts kept) c.rest_near.ensures.chain

pub returns-clause-end : goal.returns-clause-end
returns-clause-end c =
    let now = c.args.self.now in
    let inside = c.self.inside in
    let kept : IsKeptOf now inside.ids inside.events inside.heads inside.cuts = subst (λ (h : List Event). IsKeptOf h inside.ids inside.events inside.heads inside.cuts) c.self.view_is c.self.invariant in
    subst (λ (events : List BareEvent). IsRunEnd events c.args.position (c.args.position + length (run_ops c.rest_near.result))) kept.events_are c.rest_near.ensures.end
