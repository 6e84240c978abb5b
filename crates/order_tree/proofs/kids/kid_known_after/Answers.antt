use Rattle.order_tree.proofs.KidLaws.{kid_lower}
use Rattle.order_tree.proofs.KidPlaces.{part_rises, part_known}
use Rattle.order_tree.proofs.kids.kid_known_after.Goals as goal

pub returns-clause-lower : goal.returns-clause-lower
returns-clause-lower g c = kid_lower c.args.depth c.args.kids.now c.part_known_after-k.result c.index-kids-k.result c.requires.below c.part_known_after-k.ensures.within c.index-kids-k.is

pub returns-clause-rising : goal.returns-clause-rising
returns-clause-rising g c = part_rises (λ k. k.pairs) c.args.kids.now c.part_known_after-k.result c.index-kids-k.result c.part_known_after-k.ensures.within c.index-kids-k.is c.requires.rising

pub returns-clause-back : goal.returns-clause-back
returns-clause-back g c = λ next h. part_known (λ k. k.pairs) c.args.kids.now c.part_known_after-k.result c.index-kids-k.result c.part_known_after-k.ensures.within c.index-kids-k.is c.requires.rising g.R.Run.known c.args.label next c.part_known_after-k.ensures.before h
