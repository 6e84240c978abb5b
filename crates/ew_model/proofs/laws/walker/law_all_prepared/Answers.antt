use Rattle.ew_model.proofs.StateLaws.{all_prepared_is_all}
use Rattle.ew_model.proofs.laws.walker.law_all_prepared.Goals as goal

pub returns : goal.returns
returns c = all_prepared_is_all
