use Rattle.ew_model.proofs.WalkLaws.{walks_know_lengths}
use Rattle.ew_model.proofs.laws.clearing.law_walk_lengths.Goals as goal

pub returns : goal.returns
returns c = walks_know_lengths
