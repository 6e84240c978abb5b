use Rattle.std.proofs.Common.{◌∙◌, nat_eq, List, sym, ap, subst, arith}
use Rattle.ew_model.specs.Graph.{is_named}
use Rattle.critical.specs.declared.spans.CutSpan.{CutSpan}
use Rattle.critical.specs.KeptCuts.{KeptCuts}
use Rattle.critical.specs.Spans.{cuts_in, RiseFrom}
use Rattle.critical.proofs.OlderCuts.{rise_lower, named_older, named_own}
use Rattle.critical.proofs.list.Cuts.spans_for.Goals as goal

pub returns-then-k-self-clause-named : goal.returns-then-k-self-clause-named
returns-then-k-self-clause-named c =
    let kept = c.self.invariant in
    let inside = c.self.inside in
    ap (λ (ss : List CutSpan). is_named nat_eq (cuts_in ss) c.args.k) c.spans.ensures
    ∙ named_older inside.older kept.older_rising kept.older_alike inside.limit c.args.k inside.spans.items kept.rising c.if-k-self.true
    ∙ ap (λ (v : KeptCuts). is_named nat_eq v.cuts c.args.k) c.self.view_is

pub returns-else-k-self-clause-rising : goal.returns-else-k-self-clause-rising
returns-else-k-self-clause-rising c = subst (λ (ss : List CutSpan). RiseFrom 0 ss) (sym c.as_slice.ensures.value) (rise_lower c.self.inside.spans.items 0 c.self.inside.limit (omega arith) c.self.invariant.rising)

pub returns-else-k-self-clause-named : goal.returns-else-k-self-clause-named
returns-else-k-self-clause-named c =
    let kept = c.self.invariant in
    let inside = c.self.inside in
    ap (λ (ss : List CutSpan). is_named nat_eq (cuts_in ss) c.args.k) c.as_slice.ensures.value
    ∙ named_own inside.older kept.older_rising kept.older_alike inside.limit c.args.k inside.spans.items c.if-k-self.false
    ∙ ap (λ (v : KeptCuts). is_named nat_eq v.cuts c.args.k) c.self.view_is
