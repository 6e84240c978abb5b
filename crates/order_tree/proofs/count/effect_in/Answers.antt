use Rattle.std.proofs.Common.{arith, ap}
use Rattle.order_tree.specs.declared.summary.Sums.{Sums}
use Rattle.order_tree.proofs.PartLists.{total_so_far}
use Rattle.order_tree.proofs.count.effect_in.Goals as goal

pub overflow_add-effect : goal.overflow_add-effect
overflow_add-effect g c =
    let all = total_so_far g.T.Part.pairs g.R.Run.effect c.args.parts.now c.loop-part.part-index c.part-item.result c.loop-part-test.true c.part-item.is in
    let own = ap (λ (s : Sums). s.effect) c.sums-effect.ensures in
    omega (arith, all, c.loop-part.invariant, own, c.requires)
