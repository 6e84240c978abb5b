use Rattle.ew_model.proofs.ReachSteps.{ancestors_are_reached}
use Rattle.ew_model.proofs.laws.positions.law_reached.Goals as goal

pub returns : goal.returns
returns c = ancestors_are_reached
