use Rattle.ew_model.proofs.IdLaws.{is_same_id}
use Rattle.ew_model.proofs.PathOrder.{id_total}
use Rattle.ew_model.proofs.laws.orders.law_ids.Goals as goal

pub returns : goal.returns
returns c = record { total = id_total; exact = is_same_id }
