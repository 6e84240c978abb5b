use Rattle.std.proofs.Common.{◌≡◌, ℕ, ◌+◌, ◌++◌, List, length, take, drop, arith, sym, ap, ◌∙◌}
use Rattle.rope.specs.Extents.{extent}
use Rattle.rope.specs.Nodes.{Seen, all_chars}
use Rattle.rope.specs.Shape.{chars_in}
use Rattle.rope.proofs.ExtentLaws.{extent_most, extent_front, extent_inside}
use Rattle.rope.proofs.KidLists.{chars_split}
use Rattle.rope.proofs.branch.Branch.+extent_before.Goals as goal

pub overflow_add-result : goal.overflow_add-result
overflow_add-result t c =
    let front = all_chars (take c.loop-kid.kid-index c.deref-kid-items.result.now) in
    let kid = c.kid-item.result in
    omega (
      arith,
      c.loop-kid.invariant.0,
      c.loop-kid.invariant.1,
      extent_most c.args.measure front,
      extent_most c.args.measure kid.chars,
      extent_front c.args.measure kid.chars c.loop-kid.rest,
      c.extent_before-then-rest-len.ensures,
      c.len.ensures,
      c.len.type_inv,
      c.ranges.at.fits,
    )

pub overflow_add-before : goal.overflow_add-before
overflow_add-before t c =
    let front = all_chars (take c.loop-kid.kid-index c.deref-kid-items.result.now) in
    let kid = c.kid-item.result in
    omega (arith, c.loop-kid.invariant.0, c.loop-kid.invariant.1, extent_most c.args.measure front, extent_most c.args.measure kid.chars, c.extent-before.ensures, c.len.ensures, c.len.type_inv, c.ranges.at.fits)

pub returns-then-rest-len : goal.returns-then-rest-len
returns-then-rest-len t c =
    let measure = c.args.measure in
    let kids = c.deref-kid-items.result.now in
    let i = c.loop-kid.kid-index in
    let kid = c.kid-item.result in
    let front = all_chars (take i kids) in
    let behind = all_chars (drop (i + 1) kids) in
    let here : all_chars kids ≡ c.args.self.now.chars = ap all_chars c.deref-kid-items.ensures.value ∙ sym (ap chars_in c.in-Inner.is) ∙ ap (λ (s : Seen). s.chars) c.self.view_is in
    let all = sym here ∙ chars_split kids i kid c.loop-kid-test.true c.kid-item.is in
    let inside = extent_inside measure front kid.chars behind c.loop-kid.rest (omega (arith, c.if-rest-len.true, c.len.ensures)) in
    let place : extent measure (take c.args.at c.args.self.now.chars) ≡ extent measure (take (length front + c.loop-kid.rest) (front ++ (kid.chars ++ behind))) =
    ap (λ (n : ℕ). extent measure (take n c.args.self.now.chars)) (sym c.loop-kid.invariant.0) ∙ ap (λ (cs : List ℕ). extent measure (take (length front + c.loop-kid.rest) cs)) all in
    omega (arith, place, inside, c.loop-kid.invariant.1, c.extent_before-then-rest-len.ensures)
