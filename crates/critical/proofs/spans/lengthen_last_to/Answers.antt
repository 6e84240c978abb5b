use Rattle.std.proofs.Common.{◌-◌, arith}
use Rattle.critical.proofs.SpanSearches.{last_set}
use Rattle.critical.proofs.spans.lengthen_last_to.Goals as goal

pub returns-then-count-gt0 : goal.returns-then-count-gt0
returns-then-count-gt0 c =
    last_set c.args.spans.now.items c.args.cut (c.len-count.result - 1) c.index_mut.result.now (omega (arith, c.len-count.ensures, c.args.spans.now.ok.0, c.if-count-gt0.true)) c.index_mut.ensures.value
