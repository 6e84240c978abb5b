use Rattle.peer_exchange.proofs.PieceLaws.{frames_are_full}
use Rattle.peer_exchange.proofs.laws.law_frames.Goals as goal

pub returns : goal.returns
returns c = frames_are_full
