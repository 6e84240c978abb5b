use Rattle.std.proofs.Common.{ℕ, ◌+◌, ◌<◌, ◌^◌, arith, ap, ◌∙◌}
use Rattle.order_tree.specs.Pairs.{total, up_to}
use Rattle.order_tree.proofs.PairLaws.{total-up_to-le}
use Rattle.order_tree.proofs.PartLists.{total_so_far, total_split}
use Rattle.order_tree.proofs.KidLaws.{kids_some, kid_lower}
use Rattle.order_tree.proofs.KidPlaces.{part_rises, part_up_to}
use Rattle.order_tree.proofs.kids.kid_up_to.Goals as goal

pub place_of-k-requires-clause-some : goal.place_of-k-requires-clause-some
place_of-k-requires-clause-some g c = kids_some c.args.depth c.args.kids.now c.requires.below

pub effect_in-before-requires : goal.effect_in-before-requires
effect_in-before-requires g c =
    let split = total_split (λ k. k.pairs) g.R.Run.effect c.args.kids.now c.place_of-k.result in
    omega (arith, split, c.requires.small)

pub returns-clause-lower : goal.returns-clause-lower
returns-clause-lower g c = kid_lower c.args.depth c.args.kids.now c.place_of-k.result c.index-kids-k.result c.requires.below c.place_of-k.ensures.within c.index-kids-k.is

pub returns-clause-rising : goal.returns-clause-rising
returns-clause-rising g c = part_rises (λ k. k.pairs) c.args.kids.now c.place_of-k.result c.index-kids-k.result c.place_of-k.ensures.within c.index-kids-k.is c.requires.rising

pub returns-clause-small : goal.returns-clause-small
returns-clause-small g c = omega (arith, total_so_far (λ k. k.pairs) g.R.Run.effect c.args.kids.now c.place_of-k.result c.index-kids-k.result c.place_of-k.ensures.within c.index-kids-k.is, c.requires.small)

pub returns-clause-sum : goal.returns-clause-sum
returns-clause-sum g c =
    ap (λ (n : ℕ). n + total g.R.Run.effect (up_to c.index-kids-k.result.pairs c.args.label)) c.effect_in-before.ensures ∙ part_up_to (λ k. k.pairs) c.args.kids.now c.place_of-k.result c.index-kids-k.result c.place_of-k.ensures.within c.index-kids-k.is c.requires.rising g.R.Run.effect c.args.label c.place_of-k.ensures.before c.place_of-k.ensures.behind

pub returns-clause-fits : goal.returns-clause-fits
returns-clause-fits g c =
    let so = total_so_far (λ k. k.pairs) g.R.Run.effect c.args.kids.now c.place_of-k.result c.index-kids-k.result c.place_of-k.ensures.within c.index-kids-k.is in
    let le = total-up_to-le g.R.Run.effect c.index-kids-k.result.pairs c.args.label in
    let fits : c.effect_in-before.result + total g.R.Run.effect (up_to c.index-kids-k.result.pairs c.args.label) < 2 ^ 32 = omega (arith, so, le, c.effect_in-before.ensures, c.requires.small) in
    fits
