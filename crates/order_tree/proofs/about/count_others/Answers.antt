use Rattle.std.proofs.Common.{List, [], length, ap, arith}
use Rattle.order_tree.specs.Pairs.{Tree}
use Rattle.order_tree.specs.Parts.{all_pairs}
use Rattle.order_tree.proofs.AboutLaws.{others_count, behind_all}
use Rattle.order_tree.proofs.about.count_others.Goals as goal

pub count_in-before-requires : goal.count_in-before-requires
count_in-before-requires g c =
    let none : Tree g.row.R.Denot = record { pairs = []; depth = 0 } in
    omega (arith, c.requires.few, others_count c.args.kids.now c.args.k c.requires.within none)

pub count_in-requires : goal.count_in-requires
count_in-requires g c =
    let none : Tree g.row.R.Denot = record { pairs = []; depth = 0 } in
    omega (arith, c.requires.few, others_count c.args.kids.now c.args.k c.requires.within none, ap (λ (ks : List (Tree _)). length (all_pairs (λ k. k.pairs) ks)) (behind_all c.args.kids.now c.args.k c.requires.within))

pub overflow_add-result : goal.overflow_add-result
overflow_add-result g c =
    let none : Tree g.row.R.Denot = record { pairs = []; depth = 0 } in
    omega (
      arith,
      c.requires.few,
      c.count_in-before.ensures.count,
      c.count_in.ensures.count,
      others_count c.args.kids.now c.args.k c.requires.within none,
      ap (λ (ks : List (Tree _)). length (all_pairs (λ k. k.pairs) ks)) (behind_all c.args.kids.now c.args.k c.requires.within),
    )

pub returns-clause-count : goal.returns-clause-count
returns-clause-count g c = λ d.
    omega (
      arith,
      c.count_in-before.ensures.count,
      c.count_in.ensures.count,
      others_count c.args.kids.now c.args.k c.requires.within d,
      ap (λ (ks : List (Tree _)). length (all_pairs (λ k. k.pairs) ks)) (behind_all c.args.kids.now c.args.k c.requires.within),
    )
