use Rattle.ew_model.proofs.ArrivalAgreement.{arrival_agrees}
use Rattle.ew_model.proofs.laws.arrival.law_arrival.Goals as goal

pub returns : goal.returns
returns c = arrival_agrees
