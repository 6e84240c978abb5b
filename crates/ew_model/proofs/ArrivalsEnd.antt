-- Receiving ends only where nothing is left to judge.
use Rattle.std.proofs.Common.{true, arith}
use Rattle.ew_model.specs.Arrival.{most_judgements, desk_of, arrive}
use Rattle.ew_model.specs.ReceivingLaws.{ArrivalsEnd}
use Rattle.ew_model.proofs.ArrivalLaws.{judgements_end}

-- The law of the end.
pub arrivals_end : ArrivalsEnd
unfolding arrive
arrivals_end limits held waiting events = judgements_end limits true (most_judgements (desk_of held waiting events)) (desk_of held waiting events) (omega arith)
