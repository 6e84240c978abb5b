use Rattle.ew_model.proofs.TurnLaws.{walks_turn}
use Rattle.ew_model.proofs.laws.walker.law_turn.Goals as goal

pub returns : goal.returns
returns c = walks_turn
