use Rattle.ew_model.proofs.SiblingLaws.{neighbours_place}
use Rattle.ew_model.proofs.laws.walker.law_neighbours.Goals as goal

pub returns : goal.returns
returns c = neighbours_place
