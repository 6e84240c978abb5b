use Rattle.ew_model.proofs.LimitsKept.{arrivals_keep}
use Rattle.ew_model.proofs.laws.arrival.law_arrivals.Goals as goal

pub returns : goal.returns
returns c = arrivals_keep
