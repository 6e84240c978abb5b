use Rattle.ew_model.proofs.StopLaws.{judgements_are_a_front}
use Rattle.ew_model.proofs.laws.arrival.law_stops.Goals as goal

pub returns : goal.returns
returns c = judgements_are_a_front
