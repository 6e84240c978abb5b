use Rattle.rope.proofs.DeletionRuns.{deletes_more}
use Rattle.rope.proofs.deletions.first_deletions.Goals as goal

pub loop-many-preserved : goal.loop-many-preserved
loop-many-preserved c =
    let next = c.in-Some.ensures in
    deletes_more c.args.ops.now c.loop-many.many c.loop-many.place c.in-Some.next _ c.loop-many-test.true c.loop-many.invariant next.low next.high next.deletes
