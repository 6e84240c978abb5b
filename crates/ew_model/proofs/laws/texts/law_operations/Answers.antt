use Rattle.ew_model.proofs.GoodLaws.{operations_make_text}
use Rattle.ew_model.proofs.laws.texts.law_operations.Goals as goal

pub returns : goal.returns
returns c = operations_make_text
