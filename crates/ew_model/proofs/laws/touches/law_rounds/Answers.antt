use Rattle.ew_model.proofs.RoundSteps.{rounds_tell}
use Rattle.ew_model.proofs.laws.touches.law_rounds.Goals as goal

pub returns : goal.returns
returns c = rounds_tell
