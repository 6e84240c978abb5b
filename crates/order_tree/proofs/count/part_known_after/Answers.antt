use Rattle.std.proofs.Common.{arith}
use Rattle.order_tree.proofs.PartLists.{known_more}
use Rattle.order_tree.proofs.count.part_known_after.Goals as goal

pub loop-k-preserved : goal.loop-k-preserved
loop-k-preserved g c =
    known_more g.T.Part.pairs g.R.Run.known c.args.parts.now c.loop-k.k c.args.label c.index-parts-k.result c.loop-k-test.true c.index-parts-k.is c.loop-k.invariant (omega (arith, c.last_known.ensures, c.if-label-last_known.false))
