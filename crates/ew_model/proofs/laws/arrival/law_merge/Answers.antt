use Rattle.ew_model.proofs.MergeSteps.{histories_merge}
use Rattle.ew_model.proofs.laws.arrival.law_merge.Goals as goal

pub returns : goal.returns
returns c = histories_merge
