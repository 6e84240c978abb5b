use Rattle.std.proofs.Common.{◌∙◌, ◌∷◌, ◌++◌, [], ◌-◌, ◌^◌, ℕ, List, filter, nat_lt, sym, ap, subst, arith}
use Rattle.critical.specs.declared.spans.CutSpan.{CutSpan}
use Rattle.critical.specs.KeptCuts.{KeptCuts}
use Rattle.critical.specs.Older.{seen_cuts}
use Rattle.critical.specs.Spans.{cuts_in, RiseFrom, EndBelow}
use Rattle.critical.proofs.Chains.{end_higher}
use Rattle.critical.proofs.InnerCuts.{cuts_split}
use Rattle.critical.proofs.OlderCuts.{rise_lower}
use Rattle.critical.proofs.list.Cuts.list_cuts.Goals as goal

pub list_spans-requires-2-clause-rising : goal.list_spans-requires-2-clause-rising
list_spans-requires-2-clause-rising c = subst (λ (ss : List CutSpan). RiseFrom 0 ss) (sym c.deref.ensures.value) (rise_lower c.self.inside.spans.items 0 c.self.inside.limit (omega arith) c.self.invariant.rising)

pub list_spans-requires-2-clause-ends : goal.list_spans-requires-2-clause-ends
list_spans-requires-2-clause-ends c =
    subst (λ (ss : List CutSpan). EndBelow (2 ^ 32 - 1) ss) (sym c.deref.ensures.value) (end_higher c.self.inside.spans.items c.self.inside.count (2 ^ 32 - 1) (omega arith) c.self.invariant.below)

pub returns : goal.returns
returns c history stands =
    let inside = c.self.inside in
    let spans = inside.spans.items in
    let seen = seen_cuts inside.older inside.limit in
    let first = c.in_ok-list_spans.ensures ∙ ap (λ (ks : List ℕ). ks ++ cuts_in c.spans.result.now) c.new-cuts.ensures.items ∙ ap (λ (ss : List CutSpan). cuts_in ss) c.spans.ensures in
    let left = c.leave_below.ensures ∙ ap (filter (λ k. nat_lt k inside.limit)) first in
    let then = c.in_ok-list_spans-2.ensures ∙ (λ i. left i ++ cuts_in (c.deref.ensures.value i)) in
    c.in_ok-push.ensures.items ∙ ap (λ (ks : List ℕ). ks ++ inside.count ∷ []) then ∙ ap (λ (v : KeptCuts). v.cuts ++ v.count ∷ []) (c.self.view_is ∙ stands) ∙ sym (cuts_split history)
