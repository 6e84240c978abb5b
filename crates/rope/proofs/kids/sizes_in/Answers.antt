use Rattle.std.proofs.Common.{◌≡◌, ◌+◌, ◌++◌, length, take, arith, length-append, sym, ap, ◌∙◌}
use Rattle.std.proofs.lemmas.List.Sums.{sum_by_more}
use Rattle.rope.specs.Counts.{wide_chars, utf8_bytes}
use Rattle.rope.specs.Nodes.{Seen, all_chars, all_leaves}
use Rattle.rope.proofs.ExtentLaws.{wide_most, bytes_most, wide-append, bytes-append}
use Rattle.rope.proofs.KidLists.{chars_so_far, chars_more, leaves_so_far, leaves_some}
use Rattle.rope.proofs.kids.sizes_in.Goals as goal

pub overflow_add-sizes : goal.overflow_add-sizes
overflow_add-sizes c = omega (arith, chars_so_far c.args.kids.now c.loop-kid.kid-index c.kid-item.result c.loop-kid-test.true c.kid-item.is)

pub overflow_add-sizes-in-loop-kid : goal.overflow_add-sizes-in-loop-kid
overflow_add-sizes-in-loop-kid c = omega (arith, leaves_so_far c.args.kids.now c.loop-kid.kid-index c.kid-item.result c.loop-kid-test.true c.kid-item.is, leaves_some c.args.depth c.args.kids.now c.requires.below)

pub overflow_add-sizes-in-loop-kid-2 : goal.overflow_add-sizes-in-loop-kid-2
overflow_add-sizes-in-loop-kid-2 c =
    let kids = c.args.kids.now in
    let front = all_chars (take c.loop-kid.kid-index kids) in
    omega (arith, chars_so_far kids c.loop-kid.kid-index c.kid-item.result c.loop-kid-test.true c.kid-item.is, c.loop-kid.invariant.2, c.wide.ensures, wide_most front, wide_most c.kid-item.result.chars, c.requires.small)

pub overflow_add-sizes-in-loop-kid-3 : goal.overflow_add-sizes-in-loop-kid-3
overflow_add-sizes-in-loop-kid-3 c =
    let kids = c.args.kids.now in
    let front = all_chars (take c.loop-kid.kid-index kids) in
    omega (arith, chars_so_far kids c.loop-kid.kid-index c.kid-item.result c.loop-kid-test.true c.kid-item.is, c.loop-kid.invariant.3, c.bytes.ensures, bytes_most front, bytes_most c.kid-item.result.chars, c.requires.small)

pub loop-kid-preserved : goal.loop-kid-preserved
loop-kid-preserved c =
    let kids = c.args.kids.now in
    let i = c.loop-kid.kid-index in
    let kid = c.kid-item.result in
    let front = all_chars (take i kids) in
    let step : all_chars (take (i + 1) kids) ≡ front ++ kid.chars = chars_more kids i kid c.loop-kid-test.true c.kid-item.is in
    let leaves : all_leaves (take (i + 1) kids) ≡ all_leaves (take i kids) + kid.leaves = sum_by_more (λ (t : Seen). t.leaves) kids i kid c.loop-kid-test.true ∙ ap (λ (t : Seen). all_leaves (take i kids) + t.leaves) (sym c.kid-item.is) in
    let before = c.loop-kid.invariant in (
      omega (arith, ap length step, length-append front kid.chars, before.0, c.len.ensures),
      omega (arith, leaves, before.1, c.leaves.ensures),
      omega (arith, ap wide_chars step, wide-append front kid.chars, before.2, c.wide.ensures),
      omega (arith, ap utf8_bytes step, bytes-append front kid.chars, before.3, c.bytes.ensures),
    )
