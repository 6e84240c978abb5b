use Rattle.std.proofs.Common.{◌-◌, ◌<◌, inl, inr, ⊎_elim, length, slice_index_or, ap, arith}
use Rattle.std.proofs.lemmas.Option.{get_or_from_slice_get, slice_get-get_or, slice_get_within}
use Rattle.critical.specs.declared.spans.CutSpan.{CutSpan}
use Rattle.critical.proofs.SpanSearches.{greatest_held, greatest_none, three_ways}
use Rattle.critical.proofs.spans.greatest_to.Goals as goal

pub returns-then-below-gt0 : goal.returns-then-below-gt0
returns-then-below-gt0 c =
    let spans = c.args.spans.now in
    let none : CutSpan = record { first = 0; last = 0 } in
    let place = c.count_below-below.result - 1 in
    let s = slice_index_or spans place none in
    let within : place < length spans = omega (arith, c.if-below-gt0.true, c.count_below-below.ensures.bound) in
    let first = c.count_below-below.ensures.below place none (omega arith) (omega (arith, c.if-below-gt0.true)) in
    greatest_held spans place c.args.at_most s c.requires.rising (slice_get-get_or spans place none within) (omega (arith, first))
    (λ p t l e.
    let at = c.count_below-below.ensures.above p t (omega (arith, l)) (slice_get_within spans p t e) in
    let same = ap (λ (x : CutSpan). x.first) (get_or_from_slice_get spans p t t e) in omega (arith, at, same))
    c.min.result (omega (arith, c.min.ensures)) (omega (arith, c.min.ensures))
    (⊎_elim (λ l. inl (omega (arith, c.min.ensures, l))) (⊎_elim (λ l. inl (omega (arith, c.min.ensures, l))) (λ l. inr (omega (arith, c.min.ensures, l)))) (three_ways c.args.at_most s.last))

pub returns-else-below-gt0 : goal.returns-else-below-gt0
returns-else-below-gt0 c =
    greatest_none c.args.spans.now c.args.at_most c.requires.rising (λ p t e.
    let at = c.count_below-below.ensures.above p t (omega (arith, c.if-below-gt0.false)) (slice_get_within c.args.spans.now p t e) in
    let same = ap (λ (x : CutSpan). x.first) (get_or_from_slice_get c.args.spans.now p t t e) in omega (arith, at, same))
