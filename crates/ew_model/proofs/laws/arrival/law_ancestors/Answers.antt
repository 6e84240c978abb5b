use Rattle.ew_model.proofs.JudgeLaws.{ancestors_judge}
use Rattle.ew_model.proofs.laws.arrival.law_ancestors.Goals as goal

pub returns : goal.returns
returns c = ancestors_judge
