use Rattle.replica.proofs.Sparing.{cuts_spare}
use Rattle.replica.proofs.laws.law_cuts.Goals as goal

pub returns : goal.returns
returns c = cuts_spare
