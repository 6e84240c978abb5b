use Rattle.ew_model.proofs.StateLaws.{applies_keep}
use Rattle.ew_model.proofs.laws.walker.law_applied.Goals as goal

pub returns : goal.returns
returns c = applies_keep
