use Rattle.std.proofs.Common.{◌∙◌, length, ap, arith}
use Rattle.ew_model.proofs.GoodLaws.{good_laid_out}
use Rattle.ew_model.proofs.MarkGroups.{joins_heads}
use Rattle.replica.proofs.HeadLaws.{few_heads}
use Rattle.replica.proofs.marking.mark_events.Goals as goal

-- there are no more heads than events
pub joins-requires : goal.joins-requires
joins-requires c =
    let now = c.args.graph.now in
    let order = joins_heads now c.args.agent (good_laid_out now c.requires.good) in
    omega (arith, ap length (c.deref.ensures.value ∙ c.in_ok-heads.ensures), order.long, few_heads now, c.count_of-first.ensures.few, c.requires.few)
