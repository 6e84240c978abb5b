use Rattle.ew_model.proofs.ClearingLaw.{cuts_keep_lengths}
use Rattle.ew_model.proofs.laws.clearing.law_lengths.Goals as goal

pub returns : goal.returns
returns c = cuts_keep_lengths
