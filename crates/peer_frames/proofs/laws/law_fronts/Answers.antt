use Rattle.peer_frames.proofs.Cuts.{fronts_are_found, fronts_are_one}
use Rattle.peer_frames.proofs.laws.law_fronts.Goals as goal

pub returns-clause-found : goal.returns-clause-found
returns-clause-found c = fronts_are_found

pub returns-clause-one : goal.returns-clause-one
returns-clause-one c = fronts_are_one
