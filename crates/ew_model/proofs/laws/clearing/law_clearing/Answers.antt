use Rattle.ew_model.proofs.ClearingLaw.{cuts_clear}
use Rattle.ew_model.proofs.laws.clearing.law_clearing.Goals as goal

pub returns : goal.returns
returns c = cuts_clear
