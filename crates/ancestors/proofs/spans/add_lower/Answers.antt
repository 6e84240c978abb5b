use Rattle.std.proofs.Common.{◌≡◌, ℕ, ◌+◌, ◌-◌, ◌∷◌, [], ◌++◌, length, slice_index_or, ap, sym, ◌∙◌, subst, arith}
use Rattle.std.proofs.lemmas.Option.{get_or_from_slice_get}
use Rattle.ancestors.specs.declared.spans.Span.{Span}
use Rattle.ancestors.specs.Spans.{positions_of, AreDescending}
use Rattle.ancestors.proofs.SpanLists.{Lowered, joined_read, started_lower}
use Rattle.ancestors.proofs.spans.add_lower.Goals.{In_ok-push, else-count-gt0-via-then-count-gt0+else-index-span, else-count-gt0-via-else-count-gt0}
use Rattle.ancestors.proofs.spans.add_lower.Goals as goal

started : (c : In_ok-push) → Lowered c.args.spans.now.items (c.args.spans.now.items ++ c.args.span ∷ []) c.args.span
started c =
    let spans = c.args.spans.now.items in
    started_lower spans c.args.span c.requires.filled c.requires.order c.requires.lower (λ place last long at next.
    let count : c.len-count.result ≡ place + 1 = omega (arith, c.len-count.ensures, c.args.spans.now.ok.0, long) in
    elim c.else-count-gt0.branch [
      | else-count-gt0-via-then-count-gt0+else-index-span w ↦
          let here : place ≡ c.len-count.result - 1 = omega (arith, count) in
          let same : w.index.result.now ≡ last = w.index.ensures ∙ ap (λ (k : ℕ). slice_index_or spans k w.index.result.now) (sym here) ∙ get_or_from_slice_get spans place last w.index.result.now at in
          w.if-index-span.false (ap (λ (s : Span). s.from) same ∙ next)
      | else-count-gt0-via-else-count-gt0 w ↦ absurd (omega (arith, w.if-count-gt0.false, count))
    ])

pub returns-then-index-span-clause-ok : goal.returns-then-index-span-clause-ok
returns-then-index-span-clause-ok c =
    let spans = c.args.spans.now.items in
    let place = c.len-count.result - 1 in
    let last = c.index_mut.result.now in
    let long : length spans ≡ place + 1 = omega (arith, c.len-count.ensures, c.args.spans.now.ok.0, c.if-count-gt0.true) in
    (joined_read spans place c.args.span c.index.result.now last long c.index.ensures c.index_mut.ensures.value c.if-index-span.true c.requires.filled c.requires.order).positions

pub returns-then-index-span-clause-order : goal.returns-then-index-span-clause-order
returns-then-index-span-clause-order c =
    let spans = c.args.spans.now.items in
    let place = c.len-count.result - 1 in
    let last = c.index_mut.result.now in
    let long : length spans ≡ place + 1 = omega (arith, c.len-count.ensures, c.args.spans.now.ok.0, c.if-count-gt0.true) in
    (joined_read spans place c.args.span c.index.result.now last long c.index.ensures c.index_mut.ensures.value c.if-index-span.true c.requires.filled c.requires.order).order

pub returns-in_ok-push-clause-ok : goal.returns-in_ok-push-clause-ok
returns-in_ok-push-clause-ok c = ap positions_of c.in_ok-push.ensures.items ∙ (started c).positions

pub returns-in_ok-push-clause-order : goal.returns-in_ok-push-clause-order
returns-in_ok-push-clause-order c = subst AreDescending (sym c.in_ok-push.ensures.items) (started c).order
