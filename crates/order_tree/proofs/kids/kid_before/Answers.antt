use Rattle.std.proofs.Common.{◌+◌, ap, ◌∙◌, ℕ}
use Rattle.order_tree.specs.Pairs.{next_label}
use Rattle.order_tree.proofs.KidLaws.{kids_some, kid_lower}
use Rattle.order_tree.proofs.KidPlaces.{part_rises, part_next}
use Rattle.order_tree.proofs.kids.kid_before.Goals as goal

pub place_of-k-requires-clause-some : goal.place_of-k-requires-clause-some
place_of-k-requires-clause-some g c = kids_some c.args.depth c.args.kids.now c.requires.below

pub free_before-requires-clause-some : goal.free_before-requires-clause-some
free_before-requires-clause-some g c = kids_some c.args.depth c.args.kids.now c.requires.below

pub returns-clause-lower : goal.returns-clause-lower
returns-clause-lower g c = kid_lower c.args.depth c.args.kids.now c.place_of-k.result c.index-kids-k.result c.requires.below c.place_of-k.ensures.within c.index-kids-k.is

pub returns-clause-rising : goal.returns-clause-rising
returns-clause-rising g c = part_rises (λ k. k.pairs) c.args.kids.now c.place_of-k.result c.index-kids-k.result c.place_of-k.ensures.within c.index-kids-k.is c.requires.rising

pub returns-clause-next : goal.returns-clause-next
returns-clause-next g c = ap (λ (n : ℕ). next_label n c.index-kids-k.result.pairs c.args.label) c.free_before.ensures ∙ part_next (λ k. k.pairs) c.args.kids.now c.place_of-k.result c.index-kids-k.result c.place_of-k.ensures.within c.index-kids-k.is c.requires.rising c.args.label (c.args.most + 1) c.place_of-k.ensures.before c.place_of-k.ensures.behind
