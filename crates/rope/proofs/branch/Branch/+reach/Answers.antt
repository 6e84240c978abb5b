use Rattle.std.proofs.Common.{◌≡◌, ℕ, ◌+◌, ◌<◌, ◌++◌, List, length, take, drop, arith, sym, ap, ◌∙◌, subst}
use Rattle.rope.specs.Counts.{Reaches}
use Rattle.rope.specs.Extents.{extent}
use Rattle.rope.specs.Nodes.{Seen, all_chars}
use Rattle.rope.specs.Shape.{chars_in}
use Rattle.rope.proofs.ExtentLaws.{reach_inside}
use Rattle.rope.proofs.KidLists.{chars_so_far, chars_split}
use Rattle.rope.proofs.branch.Branch.+reach.Goals as goal

pub overflow_add-result : goal.overflow_add-result
overflow_add-result t c =
    let kids = c.deref-kid-items.result.now in
    let here : all_chars kids ≡ c.args.self.now.chars = ap all_chars c.deref-kid-items.ensures.value ∙ sym (ap chars_in c.in-Inner.is) ∙ ap (λ (s : Seen). s.chars) c.self.view_is in
    omega (arith, c.loop-kid.invariant.1, c.reach-at.ensures.within, chars_so_far kids c.loop-kid.kid-index c.kid-item.result c.loop-kid-test.true c.kid-item.is, ap length here, c.len-end.ensures, c.len-end.type_inv)

pub overflow_add-before : goal.overflow_add-before
overflow_add-before t c =
    let kids = c.deref-kid-items.result.now in
    let here : all_chars kids ≡ c.args.self.now.chars = ap all_chars c.deref-kid-items.ensures.value ∙ sym (ap chars_in c.in-Inner.is) ∙ ap (λ (s : Seen). s.chars) c.self.view_is in
    omega (arith, c.loop-kid.invariant.1, c.len-before.ensures, chars_so_far kids c.loop-kid.kid-index c.kid-item.result c.loop-kid-test.true c.kid-item.is, ap length here, c.len-end.ensures, c.len-end.type_inv)

pub returns-then-rest-here : goal.returns-then-rest-here
returns-then-rest-here t c =
    let measure = c.args.measure in
    let kids = c.deref-kid-items.result.now in
    let i = c.loop-kid.kid-index in
    let kid = c.kid-item.result in
    let front = all_chars (take i kids) in
    let behind = all_chars (drop (i + 1) kids) in
    let here : all_chars kids ≡ c.args.self.now.chars = ap all_chars c.deref-kid-items.ensures.value ∙ sym (ap chars_in c.in-Inner.is) ∙ ap (λ (s : Seen). s.chars) c.self.view_is in
    let all = sym here ∙ chars_split kids i kid c.loop-kid-test.true c.kid-item.is in
    let at = c.reach-at.result.0 in
    let left = c.reach-at.result.1 in
    let place : length front + at ≡ c.loop-kid.before + at = omega (arith, c.loop-kid.invariant.1) in
    let lt : c.loop-kid.rest < extent measure kid.chars = omega (arith, c.if-rest-here.true, c.extent-here.ensures) in
    let found : Reaches measure (front ++ (kid.chars ++ behind)) c.args.much (length front + at) left = reach_inside measure front kid.chars behind c.args.much c.loop-kid.rest at left c.loop-kid.invariant.0 lt c.reach-at.ensures in
    subst (λ (cs : List ℕ). Reaches measure cs c.args.much (c.loop-kid.before + at) left) (sym all) (subst (λ (n : ℕ). Reaches measure (front ++ (kid.chars ++ behind)) c.args.much n left) place found)
