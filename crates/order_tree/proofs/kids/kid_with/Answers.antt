use Rattle.order_tree.proofs.KidLaws.{kids_some, kid_lower}
use Rattle.order_tree.proofs.KidPlaces.{part_rises, part_holds, part_holds_back}
use Rattle.order_tree.proofs.kids.kid_with.Goals as goal

pub place_of-k-requires-clause-some : goal.place_of-k-requires-clause-some
place_of-k-requires-clause-some g c = kids_some c.args.depth c.args.kids.now c.requires.below

pub returns-clause-lower : goal.returns-clause-lower
returns-clause-lower g c = kid_lower c.args.depth c.args.kids.now c.place_of-k.result c.index-kids-k.result c.requires.below c.place_of-k.ensures.within c.index-kids-k.is

pub returns-clause-rising : goal.returns-clause-rising
returns-clause-rising g c = part_rises (λ k. k.pairs) c.args.kids.now c.place_of-k.result c.index-kids-k.result c.place_of-k.ensures.within c.index-kids-k.is c.requires.rising

pub returns-clause-held : goal.returns-clause-held
returns-clause-held g c = (c.requires.held.0, part_holds (λ k. k.pairs) c.args.kids.now c.place_of-k.result c.index-kids-k.result c.place_of-k.ensures.within c.index-kids-k.is c.requires.rising c.args.label c.requires.held.0 c.place_of-k.ensures.before c.place_of-k.ensures.behind c.requires.held.1)

pub returns-clause-back : goal.returns-clause-back
returns-clause-back g c = λ r h. part_holds_back (λ k. k.pairs) c.args.kids.now c.place_of-k.result c.index-kids-k.result c.place_of-k.ensures.within c.index-kids-k.is c.requires.rising (c.args.label, r) h
