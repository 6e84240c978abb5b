use Rattle.peer_frames.proofs.Cuts.{cuts_are_found, cuts_are_one}
use Rattle.peer_frames.proofs.laws.law_cuts.Goals as goal

pub returns-clause-found : goal.returns-clause-found
returns-clause-found c = cuts_are_found

pub returns-clause-one : goal.returns-clause-one
returns-clause-one c = cuts_are_one
