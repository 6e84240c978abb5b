use Rattle.blame_definitions.proofs.Joins.{blame_alike}
use Rattle.blame_definitions.proofs.law_equal_sets.Goals as goal

pub returns : goal.returns
returns c = blame_alike
