use Rattle.std.proofs.Common.{◌≡◌, ℕ, ◌+◌, ◌-◌, ◌++◌, List, length, take, drop, append_assoc, encode_utf8_all, length-append, arith, sym, ap, ◌∙◌}
use Rattle.std.proofs.lemmas.Str.{encodes-append}
use Rattle.rope.specs.Nodes.{all_chars}
use Rattle.rope.proofs.ExtentLaws.{range-append}
use Rattle.rope.proofs.KidLists.{chars_more}
use Rattle.rope.proofs.branch.Branch.+write_range.Goals as goal

-- what is wanted of one more branch is written behind what is wanted of those before it
pub loop-kid-preserved : goal.loop-kid-preserved
loop-kid-preserved t c =
    let kids = c.deref-kid-items.result.now in
    let i = c.loop-kid.kid-index in
    let kid = c.kid-item.result in
    let front = all_chars (take i kids) in
    let from = c.args.from in
    let n = c.args.n in
    let before = c.args.to.now.items in
    let kept = c.loop-kid.invariant in
    let step : all_chars (take (i + 1) kids) ≡ front ++ kid.chars = chars_more kids i kid c.loop-kid-test.true c.kid-item.is in
    let long : length (all_chars (take (i + 1) kids)) ≡ length front + length kid.chars = ap length step ∙ length-append front kid.chars in
    let here = take c.loop-kid.left (drop c.loop-kid.skip kid.chars) in
    let so_far = take n (drop from front) in
    let same : here ≡ take (n - (length front - from)) (drop (from - length front) kid.chars) = ap (λ (m : ℕ). take m (drop c.loop-kid.skip kid.chars)) kept.3 ∙ ap (λ (m : ℕ). take (n - (length front - from)) (drop m kid.chars)) kept.2 in
    let whole : take n (drop from (all_chars (take (i + 1) kids))) ≡ so_far ++ here =
    ap (λ (cs : List ℕ). take n (drop from cs)) step ∙ range-append front kid.chars from n ∙ ap (λ (cs : List ℕ). so_far ++ cs) (sym same) in (
      c.in_default.ensures.ok ∙ ap (λ (bs : List ℕ). bs ++ encode_utf8_all here) kept.0 ∙ append_assoc before (encode_utf8_all so_far) (encode_utf8_all here)
          ∙ ap (λ (bs : List ℕ). before ++ bs) (sym (encodes-append so_far here) ∙ ap encode_utf8_all (sym whole)),
      kept.1,
      omega (arith, long, kept.2, c.saturating_sub-skip.ensures, c.len-in-loop-kid-2.ensures),
      omega (arith, long, kept.2, kept.3, c.saturating_sub-left.ensures, c.saturating_sub.ensures, c.len-in-loop-kid.ensures),
    )
