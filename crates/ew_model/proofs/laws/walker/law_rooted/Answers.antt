use Rattle.ew_model.proofs.SiblingLaws.{trees_are_rooted}
use Rattle.ew_model.proofs.laws.walker.law_rooted.Goals as goal

pub returns : goal.returns
returns c = trees_are_rooted
