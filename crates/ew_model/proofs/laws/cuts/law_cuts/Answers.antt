use Rattle.ew_model.proofs.CutSteps.{cuts_step}
use Rattle.ew_model.proofs.laws.cuts.law_cuts.Goals as goal

pub returns : goal.returns
returns c = cuts_step
