use Rattle.std.proofs.Common.{ap}
use Rattle.event_file.specs.OpenRuns.{Opened}
use Rattle.event_file.specs.Runs.{ops_as}
use Rattle.event_file.proofs.RunRest.{done_when}
use Rattle.event_file.proofs.open_run.OpenRun.is_done.Goals as goal

pub returns : goal.returns
returns c = done_when (ops_as c.self.inside.rest) c.count.result c.args.self.now.rest c.count.ensures (ap (λ (o : Opened). o.rest) c.self.view_is)
