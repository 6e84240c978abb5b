use Rattle.ew_model.proofs.AlikeRuns.{alike_walk_alike}
use Rattle.ew_model.proofs.laws.walker.law_alike.Goals as goal

pub returns : goal.returns
returns c = alike_walk_alike
