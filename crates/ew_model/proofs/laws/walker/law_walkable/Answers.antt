use Rattle.ew_model.proofs.WalkRuns.{walks_are_runs}
use Rattle.ew_model.proofs.laws.walker.law_walkable.Goals as goal

pub returns : goal.returns
returns c = walks_are_runs
