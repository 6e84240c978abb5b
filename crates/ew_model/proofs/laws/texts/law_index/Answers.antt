use Rattle.ew_model.proofs.IndexLaw.{events_mean_their_index}
use Rattle.ew_model.proofs.laws.texts.law_index.Goals as goal

pub returns : goal.returns
returns c = events_mean_their_index
