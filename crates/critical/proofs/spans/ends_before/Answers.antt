use Rattle.std.proofs.Common.{◌≡◌, ◌∙◌, ◌-◌, ◌+◌, ◌<◌, suc, Some, length, nat_eq, slice_get, sym, ap, arith}
use Rattle.std.proofs.lemmas.Option.{slice_get_within}
use Rattle.critical.proofs.SpanSearches.{span_end, ends_by_last}
use Rattle.critical.proofs.spans.ends_before.Goals.{In-Some}
use Rattle.critical.proofs.spans.ends_before.Goals as goal

there : (c : In-Some) → slice_get c.args.spans.now (length c.args.spans.now - 1) ≡ Some c.in-Some.span.now
there c = sym c.in-Some.ensures.value

pub overflow_add-result : goal.overflow_add-result
overflow_add-result c = let low = span_end c.args.spans.now c.args.cut (length c.args.spans.now - 1) c.in-Some.span.now c.requires (there c) in omega (arith, low)

pub returns-in-Some : goal.returns-in-Some
returns-in-Some c =
    let spans = c.args.spans.now in
    let within : length spans - 1 < length spans = slice_get_within spans (length spans - 1) c.in-Some.span.now (there c) in
    let long : length spans ≡ suc (length spans - 1) = omega (arith, within) in
    let next : c.in-Some.span.now.last + 1 ≡ suc c.in-Some.span.now.last = omega arith in
    ap (λ k. nat_eq k c.args.cut) next ∙ sym (ends_by_last spans c.args.cut (length spans - 1) c.in-Some.span.now long (there c))
