use Rattle.std.proofs.Common.{◌≡◌, length, slice_index_or, ap, arith}
use Rattle.order_tree.specs.Pairs.{Tree}
use Rattle.order_tree.specs.Parts.{first_or_zero}
use Rattle.order_tree.proofs.KidLaws.{kids_some, kid_lower}
use Rattle.order_tree.proofs.KidPlaces.{part_rises, part_first, part_last}
use Rattle.order_tree.proofs.kids.kid_last.Goals as goal

pub place_of-k-requires-clause-some : goal.place_of-k-requires-clause-some
place_of-k-requires-clause-some g c = kids_some c.args.depth c.args.kids.now c.requires.below

pub returns-clause-lower : goal.returns-clause-lower
returns-clause-lower g c = kid_lower c.args.depth c.args.kids.now c.place_of-k.result c.index-kids-k.result c.requires.below c.place_of-k.ensures.within c.index-kids-k.is

pub returns-clause-rising : goal.returns-clause-rising
returns-clause-rising g c = part_rises (λ k. k.pairs) c.args.kids.now c.place_of-k.result c.index-kids-k.result c.place_of-k.ensures.within c.index-kids-k.is c.requires.rising

pub returns-clause-first : goal.returns-clause-first
returns-clause-first g c =
    let kids = c.args.kids.now in
    let k = c.place_of-k.result in
    let kid = c.index-kids-k.result in
    let all : length kid.pairs ≡ length (slice_index_or kids k kid).pairs = ap (λ (t : Tree _). length t.pairs) c.index-kids-k.is in
    let there = kids_some c.args.depth kids c.requires.below k kid c.place_of-k.ensures.within in
    part_first (λ k. k.pairs) kids k kid c.place_of-k.ensures.within c.index-kids-k.is c.requires.rising c.args.label (omega (arith, all, there)) c.requires.first
    (λ some. let le = c.place_of-k.ensures.first kid some in let same = ap (λ (t : Tree _). first_or_zero t.pairs) c.index-kids-k.is in omega (arith, le, same))

pub returns-clause-back : goal.returns-clause-back
returns-clause-back g c = λ own run h. part_last (λ k. k.pairs) c.args.kids.now c.place_of-k.result c.index-kids-k.result c.place_of-k.ensures.within c.index-kids-k.is c.requires.rising c.args.label own run c.place_of-k.ensures.before c.place_of-k.ensures.behind h
