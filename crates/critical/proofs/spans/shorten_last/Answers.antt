use Rattle.std.proofs.Common.{◌≡◌, ◌-◌, ◌∙◌, ℕ, suc, slice_index_or, set, sym, ap, arith, length}
use Rattle.std.proofs.lemmas.Option.{get_or_from_slice_get}
use Rattle.std.proofs.lemmas.List.{get_or_read}
use Rattle.critical.specs.declared.spans.CutSpan.{CutSpan}
use Rattle.critical.proofs.SpanSearches.{shortened_set, shortened_same}
use Rattle.critical.proofs.spans.shorten_last.Goals.{else-count-gt0-via-then-count-gt0+else-index-end, else-count-gt0-via-else-count-gt0}
use Rattle.critical.proofs.spans.shorten_last.Goals as goal

pub returns-then-index-end : goal.returns-then-index-end
returns-then-index-end c =
    let spans = c.args.spans.now.items in
    let place = c.len-count.result - 1 in
    let long : length spans ≡ suc place = omega (arith, c.len-count.ensures, c.args.spans.now.ok.0, c.if-count-gt0.true) in
    let same : c.index.result.now ≡ c.index_mut.result.now = get_or_read spans place c.index.result.now (omega (arith, long)) c.index.ensures c.index_mut.result.now ∙ sym c.index_mut.ensures.value in
    let last = ap (λ (s : CutSpan). s.last) same in
    let new : CutSpan = record { first = c.index_mut.result.now.first; last = c.saturating_sub.result } in
    ap (λ n. set spans place (record { first = c.index_mut.result.now.first; last = n })) c.saturating_sub.ensures
    ∙ shortened_set spans c.args.end place c.index_mut.result.now long c.index_mut.ensures.value (omega (arith, c.if-index-end.true, last))

pub returns-else-count-gt0 : goal.returns-else-count-gt0
returns-else-count-gt0 c =
    let spans = c.args.spans.now.items in
    shortened_same spans c.args.end (λ place s long e.
    let count : c.len-count.result ≡ suc place = omega (arith, c.len-count.ensures, c.args.spans.now.ok.0, long) in
    elim c.else-count-gt0.branch [
      | else-count-gt0-via-then-count-gt0+else-index-end w ↦
          let here : place ≡ c.len-count.result - 1 = omega (arith, count) in
          let same : w.index.result.now ≡ s = w.index.ensures ∙ ap (λ (k : ℕ). slice_index_or spans k w.index.result.now) (sym here) ∙ get_or_from_slice_get spans place s w.index.result.now e in
          let last = ap (λ (t : CutSpan). t.last) same in omega (arith, w.if-index-end.false, last)
      | else-count-gt0-via-else-count-gt0 w ↦ absurd (omega (arith, w.if-count-gt0.false, count))
    ])
