use Rattle.ew_model.proofs.PositionCuts.{cuts_step_at}
use Rattle.ew_model.proofs.laws.positions.law_position_cuts.Goals as goal

pub returns : goal.returns
returns c = cuts_step_at
