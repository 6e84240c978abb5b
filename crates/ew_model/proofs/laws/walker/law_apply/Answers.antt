use Rattle.ew_model.proofs.StateLaws.{applies_tell}
use Rattle.ew_model.proofs.laws.walker.law_apply.Goals as goal

pub returns : goal.returns
returns c = applies_tell
