use Rattle.carets.proofs.Sides.{keep_order}
use Rattle.carets.proofs.law_order.Goals as goal

pub returns : goal.returns
returns c = keep_order
