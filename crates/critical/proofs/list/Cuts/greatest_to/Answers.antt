use Rattle.std.proofs.Common.{◌≡◌, ◌⊎◌, inl, inr, ⊎_elim, List, sym, subst, arith}
use Rattle.critical.specs.declared.spans.CutSpan.{CutSpan}
use Rattle.critical.specs.KeptCuts.{KeptCuts}
use Rattle.critical.specs.Searches.{IsGreatestTo}
use Rattle.critical.specs.Spans.{cuts_in, RiseFrom}
use Rattle.critical.proofs.OlderCuts.{greatest_older, greatest_own, rise_lower}
use Rattle.critical.proofs.SpanSearches.{three_ways}
use Rattle.critical.proofs.list.Cuts.greatest_to.Goals.{After-greatest_to-greatest}
use Rattle.critical.proofs.list.Cuts.greatest_to.Goals as goal

pub greatest_to-greatest-requires-clause-rising : goal.greatest_to-greatest-requires-clause-rising
greatest_to-greatest-requires-clause-rising c =
    subst (λ (ss : List CutSpan). RiseFrom 0 ss) (sym c.deref.ensures.value) (rise_lower c.self.inside.spans.items 0 c.self.inside.limit (omega arith) c.self.invariant.rising)

own : (c : After-greatest_to-greatest) → IsGreatestTo (cuts_in c.self.inside.spans.items) c.args.at_most c.greatest_to-greatest.result
own c = subst (λ (ss : List CutSpan). IsGreatestTo (cuts_in ss) c.args.at_most c.greatest_to-greatest.result) c.deref.ensures.value c.greatest_to-greatest.ensures

pub returns-then-greatest-gt0 : goal.returns-then-greatest-gt0
returns-then-greatest-gt0 c =
    let d = (goal.at.returns-then-greatest-gt0 c).After-greatest_to-greatest in
    let inside = c.self.inside in
    let kept = c.self.invariant in
    subst (λ (v : KeptCuts). IsGreatestTo v.cuts c.args.at_most c.greatest_to-greatest.result) c.self.view_is
    (greatest_own inside.older kept.older_rising kept.older_alike inside.limit c.args.at_most c.greatest_to-greatest.result inside.spans.items kept.rising (own d) (inl c.if-greatest-gt0.true))

pub returns-in-Some : goal.returns-in-Some
returns-in-Some c =
    let d = (goal.at.returns-in-Some c).After-greatest_to-greatest in
    let inside = c.self.inside in
    let kept = c.self.invariant in
    let n = c.min.result in
    let none : c.greatest_to-greatest.result ≡ 0 = omega (arith, c.if-greatest-gt0.false) in
    subst (λ (v : KeptCuts). IsGreatestTo v.cuts c.args.at_most c.greatest_to.result) c.self.view_is
    (greatest_older inside.older kept.older_rising kept.older_alike inside.limit c.args.at_most n c.greatest_to.result inside.spans.items
    (omega (arith, c.min.ensures)) (omega (arith, c.min.ensures, c.in-Some.ensures))
    (⊎_elim (λ l. inl (omega (arith, c.min.ensures, l))) (⊎_elim (λ l. inl (omega (arith, c.min.ensures, l))) (λ l. inr (omega (arith, c.min.ensures, c.in-Some.ensures, l)))) (three_ways c.args.at_most c.in-Some.last))
    (subst (λ r. IsGreatestTo (cuts_in inside.spans.items) c.args.at_most r) none (own d))
    (subst (λ (ss : List CutSpan). IsGreatestTo (cuts_in ss) n c.greatest_to.result) c.spans.ensures c.greatest_to.ensures))

pub returns-in-None : goal.returns-in-None
returns-in-None c =
    let d = (goal.at.returns-in-None c).After-greatest_to-greatest in
    let inside = c.self.inside in
    let kept = c.self.invariant in
    subst (λ (v : KeptCuts). IsGreatestTo v.cuts c.args.at_most c.greatest_to-greatest.result) c.self.view_is
    (greatest_own inside.older kept.older_rising kept.older_alike inside.limit c.args.at_most c.greatest_to-greatest.result inside.spans.items kept.rising (own d) (inr (omega (arith, c.in-None.ensures))))
