use Rattle.std.proofs.Common.{◌≡◌, ◌-◌, ◌<◌, ◌≤◌, ℕ, Some, slice_get, slice_index_or, ap, arith}
use Rattle.std.proofs.lemmas.Option.{get_or_from_slice_get, slice_get-get_or, slice_get_within}
use Rattle.critical.specs.declared.spans.CutSpan.{CutSpan}
use Rattle.critical.proofs.SpanSearches.{held_by_none, held_by_no_other}
use Rattle.critical.proofs.spans.find_span.Goals.{Joined-else-below-gt0, else-below-gt0-via-then-below-gt0+else-k-spans, else-below-gt0-via-else-below-gt0}
use Rattle.critical.proofs.spans.find_span.Goals as goal

behind : (c : Joined-else-below-gt0) (place : ℕ) (t : CutSpan) → c.count_below-below.result ≤ place → slice_get c.args.spans.now place ≡ Some t → c.args.k < t.first
behind c place t l e =
    let at = c.count_below-below.ensures.above place t l (slice_get_within c.args.spans.now place t e) in
    let same = ap (λ (s : CutSpan). s.first) (get_or_from_slice_get c.args.spans.now place t t e) in omega (arith, at, same)

pub returns-else-below-gt0-clause-none : goal.returns-else-below-gt0-clause-none
returns-else-below-gt0-clause-none c =
    let spans = c.args.spans.now in
    let none : CutSpan = record { first = 0; last = 0 } in
    elim c.else-below-gt0.branch [
      | else-below-gt0-via-then-below-gt0+else-k-spans w ↦
          let place = c.count_below-below.result - 1 in
          held_by_no_other spans place c.args.k (slice_index_or spans place none) c.requires.rising
          (slice_get-get_or spans place none (omega (arith, w.if-below-gt0.true, c.count_below-below.ensures.bound)))
          w.if-k-spans.false
          (λ p t l e. behind c p t (omega (arith, l)) e)
      | else-below-gt0-via-else-below-gt0 w ↦ held_by_none spans c.args.k c.requires.rising (λ p t e. behind c p t (omega (arith, w.if-below-gt0.false)) e)
    ]
