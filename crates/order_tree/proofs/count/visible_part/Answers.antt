use Rattle.std.proofs.Common.{arith, ap}
use Rattle.order_tree.specs.declared.summary.Sums.{Sums}
use Rattle.order_tree.proofs.PartLists.{total_so_far}
use Rattle.order_tree.proofs.count.visible_part.Goals as goal

pub overflow_add-effect : goal.overflow_add-effect
overflow_add-effect g c =
    let all = total_so_far g.T.Part.pairs g.R.Run.effect c.args.parts.now c.loop-k.k c.index-parts-k.result c.loop-k-test.true c.index-parts-k.is in
    let own = ap (λ (s : Sums). s.effect) c.sums-sums.ensures in
    omega (arith, all, c.loop-k.invariant.2, own, c.requires.small)
