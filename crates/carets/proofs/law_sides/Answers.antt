use Rattle.carets.proofs.Sides.{keep_sides}
use Rattle.carets.proofs.law_sides.Goals as goal

pub returns : goal.returns
returns c = keep_sides
