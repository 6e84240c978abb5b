use Rattle.ew_model.proofs.ReadLaws.{names_prepare}
use Rattle.ew_model.proofs.laws.walker.law_prepared.Goals as goal

pub returns : goal.returns
returns c = names_prepare
