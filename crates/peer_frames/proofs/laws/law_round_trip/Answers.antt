use Rattle.peer_frames.proofs.Cuts.{frames_come_back}
use Rattle.peer_frames.proofs.laws.law_round_trip.Goals as goal

pub returns : goal.returns
returns c = frames_come_back
