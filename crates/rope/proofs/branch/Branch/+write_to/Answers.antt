use Rattle.std.proofs.Common.{◌≡◌, ℕ, ◌+◌, ◌++◌, List, take, append_assoc, encode_utf8_all, sym, ap, ◌∙◌}
use Rattle.std.proofs.lemmas.Str.{encodes-append}
use Rattle.rope.specs.Nodes.{all_chars}
use Rattle.rope.proofs.KidLists.{chars_more}
use Rattle.rope.proofs.branch.Branch.+write_to.Goals as goal

-- the characters of one more branch are written behind those before it
pub loop-kid-preserved : goal.loop-kid-preserved
loop-kid-preserved t c =
    let kids = c.deref-kid-items.result.now in
    let i = c.loop-kid.kid-index in
    let kid = c.kid-item.result in
    let front = all_chars (take i kids) in
    let before = c.args.to.now.items in
    let step : all_chars (take (i + 1) kids) ≡ front ++ kid.chars = chars_more kids i kid c.loop-kid-test.true c.kid-item.is in (
      c.in_default.ensures.ok ∙ ap (λ (bs : List ℕ). bs ++ encode_utf8_all kid.chars) c.loop-kid.invariant.0 ∙ append_assoc before (encode_utf8_all front) (encode_utf8_all kid.chars)
          ∙ ap (λ (bs : List ℕ). before ++ bs) (sym (encodes-append front kid.chars) ∙ ap encode_utf8_all (sym step)),
      c.loop-kid.invariant.1,
    )
