use Rattle.ew_model.proofs.RoundLaws.{one_round}
use Rattle.ew_model.proofs.laws.touches.law_one_round.Goals as goal

pub returns : goal.returns
returns c = one_round
