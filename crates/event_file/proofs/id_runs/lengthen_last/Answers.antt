use Rattle.std.proofs.Common.{◌-◌, arith}
use Rattle.event_file.proofs.IdRuns.{last_more}
use Rattle.event_file.proofs.id_runs.lengthen_last.Goals as goal

pub returns-then-count-gt0 : goal.returns-then-count-gt0
returns-then-count-gt0 c =
    last_more c.args.runs.now.items (c.len-count.result - 1) c.index_mut.result.now c.args.by (omega (arith, c.len-count.ensures, c.args.runs.now.ok.0, c.if-count-gt0.true)) c.index_mut.ensures.value
