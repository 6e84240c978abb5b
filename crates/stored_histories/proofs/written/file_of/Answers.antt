use Rattle.std.proofs.Common.{◌<◌, ◌^◌, length, sym, subst, arith}
use Rattle.ew_model.specs.Writable.{IsWritable}
use Rattle.ew_model.proofs.WritableLaws.{good_is_writable}
use Rattle.stored_histories.proofs.written.file_of.Goals as goal

pub written-requires : goal.written-requires
written-requires c =
    let few : length c.args.replica.now.held < 2 ^ 32 = omega (arith, c.count-count.ensures) in
    subst IsWritable (sym c.graph.ensures.graph) (good_is_writable c.args.replica.now.held c.graph.ensures.kept.orderly.good few)
