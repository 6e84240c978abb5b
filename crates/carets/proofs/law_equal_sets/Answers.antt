use Rattle.carets.proofs.Sides.{equal_sides}
use Rattle.carets.proofs.law_equal_sets.Goals as goal

pub returns : goal.returns
returns c = equal_sides
