use Rattle.ew_model.proofs.FitLaw.{operations_fit}
use Rattle.ew_model.proofs.laws.texts.law_fit.Goals as goal

pub returns : goal.returns
returns c = operations_fit
