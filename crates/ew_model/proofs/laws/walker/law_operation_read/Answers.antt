use Rattle.ew_model.proofs.ReadLaws.{operations_read}
use Rattle.ew_model.proofs.laws.walker.law_operation_read.Goals as goal

pub returns : goal.returns
returns c = operations_read
