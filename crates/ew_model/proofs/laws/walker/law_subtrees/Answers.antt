use Rattle.ew_model.proofs.SiblingLaws.{subtrees_end}
use Rattle.ew_model.proofs.laws.walker.law_subtrees.Goals as goal

pub returns : goal.returns
returns c = subtrees_end
