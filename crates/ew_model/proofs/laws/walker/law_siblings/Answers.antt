use Rattle.ew_model.proofs.SiblingLaws.{siblings_tell}
use Rattle.ew_model.proofs.laws.walker.law_siblings.Goals as goal

pub returns : goal.returns
returns c = siblings_tell
