use Rattle.std.proofs.Common.{arith}
use Rattle.order_tree.proofs.AboutLaws.{counting_small}
use Rattle.order_tree.proofs.about.count_in.Goals as goal

pub count-count-requires : goal.count-count-requires
count-count-requires g c =
    omega (arith, c.requires, counting_small c.args.kids.now c.loop-kid.kid-index c.loop-kid.count _ _ c.loop-kid.invariant c.kid-item.result c.loop-kid-test.true c.kid-item.is)

pub overflow_add-count : goal.overflow_add-count
overflow_add-count g c =
    omega (arith, c.requires, c.count-count.ensures.count, counting_small c.args.kids.now c.loop-kid.kid-index c.loop-kid.count _ _ c.loop-kid.invariant c.kid-item.result c.loop-kid-test.true c.kid-item.is)
