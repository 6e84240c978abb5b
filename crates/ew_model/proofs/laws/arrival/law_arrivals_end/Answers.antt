use Rattle.ew_model.proofs.ArrivalsEnd.{arrivals_end}
use Rattle.ew_model.proofs.laws.arrival.law_arrivals_end.Goals as goal

pub returns : goal.returns
returns c = arrivals_end
