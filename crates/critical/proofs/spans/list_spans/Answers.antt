use Rattle.std.proofs.Common.{◌≡◌, ◌∙◌, ◌-◌, ◌^◌, ◌++◌, ℕ, suc, List, sym, ap, arith, append_assoc, length, take, slice_index_or}
use Rattle.std.specs.List.{range_with_len}
use Rattle.std.proofs.Math.Seq.{take-length}
use Rattle.std.proofs.lemmas.List.{take_more}
use Rattle.std.proofs.lemmas.Option.{slice_get-get_or}
use Rattle.critical.specs.declared.spans.CutSpan.{CutSpan}
use Rattle.critical.specs.Spans.{cuts_in}
use Rattle.critical.proofs.SpanChanges.{last_more}
use Rattle.critical.proofs.SpanSearches.{span_order, span_end}
use Rattle.critical.proofs.spans.list_spans.Goals as goal

pub list_span-requires-clause-room : goal.list_span-requires-clause-room
list_span-requires-clause-room c =
    let spans = c.args.spans.now in
    let i = c.loop-span.span-index in
    let d : CutSpan = record { first = 0; last = 0 } in
    let low = span_end spans (2 ^ 32 - 1) i (slice_index_or spans i d) c.requires.ends (slice_get-get_or spans i d c.loop-span-test.true) in omega (arith, low)

pub list_span-requires-clause-order : goal.list_span-requires-clause-order
list_span-requires-clause-order c =
    let spans = c.args.spans.now in
    let i = c.loop-span.span-index in
    let d : CutSpan = record { first = 0; last = 0 } in
    span_order spans 0 i (slice_index_or spans i d) c.requires.rising (slice_get-get_or spans i d c.loop-span-test.true)

pub loop-span-preserved : goal.loop-span-preserved
loop-span-preserved c =
    let spans = c.args.spans.now in
    let i = c.loop-span.span-index in
    let d : CutSpan = record { first = 0; last = 0 } in
    let s = slice_index_or spans i d in
    let before = c.args.numbers.now.items in
    c.in_ok-list_span.ensures ∙ ap (λ (xs : List ℕ). xs ++ range_with_len s.first (suc (s.last - s.first))) c.loop-span.invariant
    ∙ append_assoc before (cuts_in (take i spans)) (range_with_len s.first (suc (s.last - s.first)))
    ∙ ap (λ (xs : List ℕ). before ++ xs) (sym (last_more (take i spans) s) ∙ ap cuts_in (sym (take_more spans i d c.loop-span-test.true)))

pub returns : goal.returns
returns c =
    let spans = c.args.spans.now in
    let end : c.loop-span.span-index ≡ length spans = omega (arith, c.loop-span-test.false, c.loop-span.auto.span-index-end) in
    let whole : take c.loop-span.span-index spans ≡ spans = ap (λ n. take n spans) end ∙ take-length spans in
    c.loop-span.invariant ∙ ap (λ (ss : List CutSpan). c.args.numbers.now.items ++ cuts_in ss) whole
