use Rattle.ew_model.proofs.PathOrder.{path_total}
use Rattle.ew_model.proofs.laws.orders.law_paths.Goals as goal

pub returns : goal.returns
returns c = path_total
