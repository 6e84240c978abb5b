use Rattle.ew_model.proofs.FirstLaws.{applies_first}
use Rattle.ew_model.proofs.laws.walker.law_first.Goals as goal

pub returns : goal.returns
returns c = applies_first
