use Rattle.std.proofs.Common.{ℕ, ◌+◌, ◌<◌, ◌^◌, arith, ap, ◌∙◌}
use Rattle.order_tree.specs.Pairs.{total, lower}
use Rattle.order_tree.proofs.VisibleLaws.{total-lower-le, part_lower}
use Rattle.order_tree.proofs.PartLists.{total_so_far}
use Rattle.order_tree.proofs.KidLaws.{kid_lower}
use Rattle.order_tree.proofs.KidPlaces.{part_rises, part_place, part_holds_back}
use Rattle.order_tree.proofs.visible.kid_visible.Goals as goal

pub returns-clause-lower : goal.returns-clause-lower
returns-clause-lower g c = kid_lower c.args.depth c.args.kids.now c.visible_part-k.result.0 c.index-kids-k.result c.requires.below c.visible_part-k.ensures.within c.index-kids-k.is

pub returns-clause-rising : goal.returns-clause-rising
returns-clause-rising g c = part_rises (λ k. k.pairs) c.args.kids.now c.visible_part-k.result.0 c.index-kids-k.result c.visible_part-k.ensures.within c.index-kids-k.is c.requires.rising

pub returns-clause-within : goal.returns-clause-within
returns-clause-within g c = rw c.index-kids-k.is (c.visible_part-k.ensures.inside c.index-kids-k.result)

pub returns-clause-small : goal.returns-clause-small
returns-clause-small g c = omega (arith, total_so_far (λ k. k.pairs) g.R.Run.effect c.args.kids.now c.visible_part-k.result.0 c.index-kids-k.result c.visible_part-k.ensures.within c.index-kids-k.is, c.requires.small)

pub returns-clause-place : goal.returns-clause-place
returns-clause-place g c = λ label place h. part_place (λ k. k.pairs) c.args.kids.now c.visible_part-k.result.0 c.index-kids-k.result c.visible_part-k.ensures.within c.index-kids-k.is c.requires.rising g.R.Run.prepared c.args.i c.visible_part-k.result.1 label place c.visible_part-k.ensures.before h

pub returns-clause-held : goal.returns-clause-held
returns-clause-held g c = λ label r h. part_holds_back (λ k. k.pairs) c.args.kids.now c.visible_part-k.result.0 c.index-kids-k.result c.visible_part-k.ensures.within c.index-kids-k.is c.requires.rising (label, r) h

pub returns-clause-before : goal.returns-clause-before
returns-clause-before g c = λ label r h.
    ap (λ (n : ℕ). n + total g.R.Run.effect (lower c.index-kids-k.result.pairs label)) c.visible_part-k.ensures.effect
    ∙ part_lower (λ k. k.pairs) c.args.kids.now c.visible_part-k.result.0 c.index-kids-k.result c.visible_part-k.ensures.within c.index-kids-k.is c.requires.rising g.R.Run.effect label r h

pub returns-clause-fits : goal.returns-clause-fits
returns-clause-fits g c = λ label.
    let so = total_so_far (λ k. k.pairs) g.R.Run.effect c.args.kids.now c.visible_part-k.result.0 c.index-kids-k.result c.visible_part-k.ensures.within c.index-kids-k.is in
    let le = total-lower-le g.R.Run.effect c.index-kids-k.result.pairs label in
    let fits : c.visible_part-k.result.2 + total g.R.Run.effect (lower c.index-kids-k.result.pairs label) < 2 ^ 32 = omega (arith, so, le, c.visible_part-k.ensures.effect, c.requires.small) in
    fits
