use Rattle.ew_model.proofs.MoveLaws.{moves_arrive}
use Rattle.ew_model.proofs.laws.walker.law_moves.Goals as goal

pub returns : goal.returns
returns c = moves_arrive
