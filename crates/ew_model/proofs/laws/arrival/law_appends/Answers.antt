use Rattle.ew_model.proofs.AppendSteps.{arrivals_append}
use Rattle.ew_model.proofs.laws.arrival.law_appends.Goals as goal

pub returns : goal.returns
returns c = arrivals_append
