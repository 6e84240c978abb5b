use Rattle.ew_model.proofs.TouchSteps.{touches_add}
use Rattle.ew_model.proofs.laws.touches.law_touches.Goals as goal

pub returns : goal.returns
returns c = touches_add
