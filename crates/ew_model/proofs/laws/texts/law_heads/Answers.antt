use Rattle.ew_model.proofs.HeadsLaw.{heads_hold_all}
use Rattle.ew_model.proofs.laws.texts.law_heads.Goals as goal

pub returns : goal.returns
returns c = heads_hold_all
