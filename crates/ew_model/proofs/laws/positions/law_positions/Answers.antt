use Rattle.ew_model.proofs.PositionAgreement.{positions_agree}
use Rattle.ew_model.proofs.laws.positions.law_positions.Goals as goal

pub returns : goal.returns
returns c = positions_agree
