use Rattle.ew_model.proofs.PositionAgreement.{positions_grow}
use Rattle.ew_model.proofs.laws.positions.law_positions_grow.Goals as goal

pub returns : goal.returns
returns c = positions_grow
