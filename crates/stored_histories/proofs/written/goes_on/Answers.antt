use Rattle.std.proofs.Common.{◌<◌, arith}
use Rattle.std.proofs.lemmas.Bool.{ltb-true}
use Rattle.stored_histories.proofs.GraphRecords.{one_parent_id}
use Rattle.stored_histories.proofs.written.goes_on.Goals as goal

pub returns : goal.returns
returns c low e n x at is there =
    let below : c.chain_start_near.result < c.args.position = ltb-true _ _ low in
    one_parent_id c.args.graph.now c.args.position e n x c.count-count.ensures.admitted at is there (c.chain_start_near.ensures.chain.links n (omega (arith, below, is)) (omega (arith, is)))
