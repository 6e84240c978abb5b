use Rattle.std.proofs.Common.{◌≡◌, ◌≤◌, ◌<◌, ◌∙◌, ℕ, Option, IfSome, IfNone, Bool, true, false, List, is_some, refl, sym, ap, arith, eq-eqb, nat_eq, length}
use Rattle.std.proofs.lemmas.Bool.{eqb-true, false≢true, false_from_ne_true}
use Rattle.ew_model.specs.Graph.{is_named}
use Rattle.ew_model.specs.Positions.{is_cut_at}
use Rattle.ew_model.proofs.PositionCuts.{cut_at_length}
use Rattle.critical.specs.declared.spans.CutSpan.{CutSpan}
use Rattle.critical.specs.KeptCuts.{KeptCuts, kept_for}
use Rattle.critical.specs.Spans.{cuts_in, IsHeldAt}
use Rattle.ew_model.specs.Sets.{Among}
use Rattle.critical.proofs.InnerCuts.{named_cut, cut_low}
use Rattle.critical.proofs.SpanSearches.{found_tells}
use Rattle.critical.proofs.list.Cuts.is_cut_near.Goals as goal

-- at the number of the events, and behind it
at_end : (history : List (List ℕ)) (k n : ℕ) → n ≡ length history → n ≤ k → nat_eq k n ≡ is_cut_at history k
at_end history k n count le = by (nat_eq k n) refl
  where
    by : (b : Bool) → nat_eq k n ≡ b → b ≡ is_cut_at history k
    by true e = sym (ap (is_cut_at history) (eqb-true k n e ∙ count) ∙ cut_at_length history)
    by false e = sym (false_from_ne_true (is_cut_at history k) (λ cut. let low = cut_low history k cut in false≢true (sym e ∙ eq-eqb k n (omega (arith, low, count, le)))))

pub returns-then-k-self : goal.returns-then-k-self
returns-then-k-self c history stands =
    at_end history c.args.k c.self.inside.count (ap (λ (v : KeptCuts). v.count) (c.self.view_is ∙ stands)) c.if-k-self.true

named : (history : List (List ℕ)) (kept : KeptCuts) (spans : List CutSpan) (k n : ℕ) (r : Option ℕ) → kept ≡ kept_for history → n ≡ kept.count → k < n → is_named nat_eq (cuts_in spans) k ≡ is_named nat_eq kept.cuts k
    → IfSome r (λ place. IsHeldAt spans place k) → IfNone r (Among k (cuts_in spans) → ⊥) → is_some r ≡ is_cut_at history k
named history kept spans k n r stands count low same some none =
    let all : n ≡ length history = count ∙ ap (λ (v : KeptCuts). v.count) stands in
    found_tells spans k r some none ∙ same ∙ ap (λ (v : KeptCuts). is_named nat_eq v.cuts k) stands
    ∙ named_cut history k (λ e. omega (arith, e, all, low))

pub returns-in-Some : goal.returns-in-Some
returns-in-Some c history stands =
    sym (ap is_some c.in-Some.is)
    ∙ named history c.args.self.now c.spans_for.result.now c.args.k c.self.inside.count c.find_span_near.result stands (ap (λ (v : KeptCuts). v.count) c.self.view_is) c.if-k-self.false
    c.spans_for.ensures.named c.find_span_near.ensures.some c.find_span_near.ensures.none

pub returns-in-None : goal.returns-in-None
returns-in-None c history stands =
    sym (ap is_some c.in-None.is)
    ∙ named history c.args.self.now c.spans_for.result.now c.args.k c.self.inside.count c.find_span_near.result stands (ap (λ (v : KeptCuts). v.count) c.self.view_is) c.if-k-self.false
    c.spans_for.ensures.named c.find_span_near.ensures.some c.find_span_near.ensures.none
