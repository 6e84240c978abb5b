use Rattle.carets.proofs.Sides.{own_index}
use Rattle.carets.proofs.law_own_index.Goals as goal

pub returns : goal.returns
returns c = own_index
