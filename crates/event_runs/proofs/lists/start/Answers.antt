use Rattle.std.proofs.Common.{arith}
use Rattle.event_runs.proofs.Cutting.{start_above}
use Rattle.event_runs.proofs.lists.start.Goals as goal

pub returns-else-place-eq0 : goal.returns-else-place-eq0
returns-else-place-eq0 c = start_above c.args.ends.now c.args.place (omega arith) (omega arith)
