use Rattle.std.proofs.Common.{◌≡◌, ◌∙◌, ◌+◌, ◌-◌, ◌∷◌, ◌++◌, [], ℕ, suc, List, sym, ap, arith, append_assoc}
use Rattle.std.specs.List.{range_with_len}
use Rattle.critical.proofs.spans.list_span.Goals as goal
use Rattle.ew_model.proofs.Ranges.{range_more}

pub loop-k-preserved : goal.loop-k-preserved
loop-k-preserved c =
    let first = c.args.span.first in
    let n = c.loop-k.k - first in
    let next : c.loop-k.k + 1 - first ≡ suc n = omega (arith, c.loop-k.auto.k) in
    let here : first + n ≡ c.loop-k.k = omega (arith, c.loop-k.auto.k) in
    c.in_ok-push.ensures.items ∙ ap (λ (xs : List ℕ). xs ++ c.loop-k.k ∷ []) c.loop-k.invariant ∙ append_assoc c.args.numbers.now.items (range_with_len first n) (c.loop-k.k ∷ [])
    ∙ ap (λ (xs : List ℕ). c.args.numbers.now.items ++ xs) (ap (λ k. range_with_len first n ++ k ∷ []) (sym here) ∙ sym (range_more first n) ∙ ap (range_with_len first) (sym next))

pub returns : goal.returns
returns c =
    let end : c.loop-k.k - c.args.span.first ≡ suc (c.args.span.last - c.args.span.first) = omega (arith, c.loop-k-test.false, c.loop-k.auto.k-end, c.requires.order) in
    c.loop-k.invariant ∙ ap (λ n. c.args.numbers.now.items ++ range_with_len c.args.span.first n) end
