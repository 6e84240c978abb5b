use Rattle.std.proofs.Common.{length, arith, ◌∙◌}
use Rattle.rope.proofs.TypedRuns.{typed_step, typed_room}
use Rattle.rope.proofs.typed.put_typed.Goals as goal

pub loop-op-preserved : goal.loop-op-preserved
loop-op-preserved c =
    let ops = c.args.ops.now in
    let i = c.loop-op.op-index in
    let lt = c.loop-op-test.true in
    let put = c.put_op-place.ensures in
    let before = c.loop-op.invariant in (
      rw (put.chars, put.place) (typed_step ops i c.loop-op.place _ c.loop-op.leaf lt before.2 ∙ before.0),
      typed_room ops i _ (length c.loop-op.leaf) _ 64 lt put.long before.1,
      omega (arith, put.place, put.long, before.2),
    )
