use Rattle.ew_model.proofs.StateLaws.{retreats_tell}
use Rattle.ew_model.proofs.laws.walker.law_retreat.Goals as goal

pub returns : goal.returns
returns c = retreats_tell
