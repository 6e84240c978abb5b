use Rattle.std.proofs.Common.{◌≡◌, ◌∙◌, ◌<◌, ◌++◌, List, length, sym, ap, subst, All}
use Rattle.ew_model.specs.declared.event.Event.{Event}
use Rattle.ew_model.specs.Positions.{parent_positions}
use Rattle.ew_model.proofs.PositionFrontier.{frontier_below}
use Rattle.agent_ids.specs.IdRuns.{last_in}
use Rattle.event_runs.specs.RunOps.{ops_of}
use Rattle.event_graph.specs.GoingOn.{chain_behind}
use Rattle.event_graph.specs.Keeping.{IsKeptOf}
use Rattle.event_graph.proofs.Chains.{kept_chain, last_of}
use Rattle.event_graph.proofs.Grown.{told}
use Rattle.event_graph.proofs.Kept.{length_events, length_parents}
use Rattle.event_graph.proofs.graph.Graph.go_on_run.Goals.{In_ok-append_run}
use Rattle.event_graph.proofs.graph.Graph.go_on_run.Goals as goal

pub append_run-requires-clause-some : goal.append_run-requires-clause-some
append_run-requires-clause-some c =
    let now = c.args.self.now in
    let inside = c.self.inside in
    let kept : IsKeptOf now inside.ids inside.events inside.heads inside.cuts = subst (λ (h : List Event). IsKeptOf h inside.ids inside.events inside.heads inside.cuts) c.self.view_is c.self.invariant in
    subst (λ n. 0 < n) (sym (length_events now inside.ids inside.events inside.heads inside.cuts kept)) c.requires.some

pub append_run-requires-clause-below : goal.append_run-requires-clause-below
append_run-requires-clause-below c =
    let now = c.args.self.now in
    let inside = c.self.inside in
    let kept : IsKeptOf now inside.ids inside.events inside.heads inside.cuts = subst (λ (h : List Event). IsKeptOf h inside.ids inside.events inside.heads inside.cuts) c.self.view_is c.self.invariant in
    let count : length (parent_positions now) ≡ length inside.events = length_parents now inside.ids inside.events inside.heads inside.cuts kept ∙ sym (length_events now inside.ids inside.events inside.heads inside.cuts kept) in
    subst (λ n. All (λ h. h < n) inside.heads) count (subst (All (λ h. h < length (parent_positions now))) (sym kept.heads_are) (frontier_below (parent_positions now)))

all : (c : In_ok-append_run) → IsKeptOf (c.args.self.now ++ chain_behind c.in_ok-append_run.ensures.ids.0 (ops_of c.args.ops)) c.append_run.new.ids c.append_run.new.runs c.append_run.new.heads c.append_run.new.cuts
all c =
    let now = c.args.self.now in
    let inside = c.self.inside in
    let kept : IsKeptOf now inside.ids inside.events inside.heads inside.cuts = subst (λ (h : List Event). IsKeptOf h inside.ids inside.events inside.heads inside.cuts) c.self.view_is c.self.invariant in
    let parts = c.append_run.new in
    let told_of = c.in_ok-append_run.ensures in
    kept_chain now inside.ids inside.events inside.heads inside.cuts kept told_of.ids.0 (ops_of c.args.ops) (last_of now told_of.ids.0 (ap last_in (sym kept.ids_are) ∙ told_of.ids.1)) c.requires.room (c.facts.ensures c.requires.fit)
    parts.ids parts.runs parts.heads parts.cuts told_of.ids.2 told_of.runs told_of.heads told_of.cuts

pub invariant_of-self-2 : goal.invariant_of-self-2
invariant_of-self-2 c =
    let at = (goal.at.invariant_of-self-2 c).In_ok-append_run in
    let x = c.in_ok-append_run.ensures.ids.0 in
    let parts = c.append_run.new in
    subst (λ (h : List Event). IsKeptOf h parts.ids parts.runs parts.heads parts.cuts) (sym (told (c.args.self.now ++ chain_behind x (ops_of c.args.ops)) parts.ids parts.runs parts.heads parts.cuts (all at))) (all at)

pub returns-clause-ok : goal.returns-clause-ok
returns-clause-ok c =
    let at = (goal.at.returns-clause-ok c).In_ok-append_run in
    let now = c.args.self.now in
    let inside = c.self.inside in
    let kept : IsKeptOf now inside.ids inside.events inside.heads inside.cuts = subst (λ (h : List Event). IsKeptOf h inside.ids inside.events inside.heads inside.cuts) c.self.view_is c.self.invariant in
    let told_of = c.in_ok-append_run.ensures in
    let x = told_of.ids.0 in
    let parts = c.append_run.new in
    (x, last_of now x (ap last_in (sym kept.ids_are) ∙ told_of.ids.1), told (now ++ chain_behind x (ops_of c.args.ops)) parts.ids parts.runs parts.heads parts.cuts (all at))
