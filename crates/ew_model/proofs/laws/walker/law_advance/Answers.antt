use Rattle.ew_model.proofs.StateLaws.{advances_tell}
use Rattle.ew_model.proofs.laws.walker.law_advance.Goals as goal

pub returns : goal.returns
returns c = advances_tell
