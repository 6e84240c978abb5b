use Rattle.command_runs.proofs.Runs.{run_ends}
use Rattle.command_runs.proofs.start.run_process.Goals as goal

pub returns : goal.returns
returns g c = run_ends _ _ _ _ _ _ c.from.ensures c.run_uncounted.ensures.run
