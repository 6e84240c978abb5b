use Rattle.ew_model.proofs.WalkLaws.{walks_answer}
use Rattle.ew_model.proofs.laws.clearing.law_walk.Goals as goal

pub returns : goal.returns
returns c = walks_answer
