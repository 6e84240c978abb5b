use Rattle.std.proofs.Common.{◌<◌, length, arith}
use Rattle.rope.proofs.TypedRuns.{typed_more}
use Rattle.rope.proofs.typed.typed_length.Goals as goal

pub loop-many-preserved : goal.loop-many-preserved
loop-many-preserved c =
    let lt : c.loop-many.many < length c.args.ops.now = omega (arith, c.loop-many-test.true, c.looked_at-most.ensures.within) in
    typed_more c.args.ops.now c.loop-many.many c.args.at _ lt c.loop-many.invariant (c.is_insertion_at.ensures c.if-not-is_insertion_at.false)
