use Rattle.ew_model.proofs.GoodLaws.{equal_sets_agree}
use Rattle.ew_model.proofs.laws.texts.law_equal.Goals as goal

pub returns : goal.returns
returns c = equal_sets_agree
