use Rattle.peer_frames.proofs.Cuts.{no_frame_begins_another}
use Rattle.peer_frames.proofs.laws.law_prefix.Goals as goal

pub returns : goal.returns
returns c = no_frame_begins_another
