use Rattle.order_tree.specs.Counts.{count_of}
use Rattle.order_tree.proofs.KidLaws.{kid_lower}
use Rattle.order_tree.proofs.KidPlaces.{part_rises, part_place}
use Rattle.order_tree.proofs.kids.kid_at.Goals as goal

pub returns-clause-lower : goal.returns-clause-lower
returns-clause-lower g c = kid_lower c.args.depth c.args.kids.now c.part_at-k.result.0 c.index-kids-k.result c.requires.below c.part_at-k.ensures.within c.index-kids-k.is

pub returns-clause-rising : goal.returns-clause-rising
returns-clause-rising g c = part_rises (λ k. k.pairs) c.args.kids.now c.part_at-k.result.0 c.index-kids-k.result c.part_at-k.ensures.within c.index-kids-k.is c.requires.rising

pub returns-clause-within : goal.returns-clause-within
returns-clause-within g c = rw c.index-kids-k.is (c.part_at-k.ensures.inside c.index-kids-k.result)

pub returns-clause-back : goal.returns-clause-back
returns-clause-back g c = λ label place h. part_place (λ k. k.pairs) c.args.kids.now c.part_at-k.result.0 c.index-kids-k.result c.part_at-k.ensures.within c.index-kids-k.is c.requires.rising (count_of g.R.Run c.args.count) c.args.i c.part_at-k.result.1 label place c.part_at-k.ensures.before h
