use Rattle.peer_frames.proofs.Cuts.{faults_stay}
use Rattle.peer_frames.proofs.laws.law_faults.Goals as goal

pub returns : goal.returns
returns c = faults_stay
