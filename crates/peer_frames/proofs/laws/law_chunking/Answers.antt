use Rattle.peer_frames.proofs.Cuts.{chunking_is_not_seen, chunkings_agree}
use Rattle.peer_frames.proofs.laws.law_chunking.Goals as goal

pub returns-clause-whole : goal.returns-clause-whole
returns-clause-whole c = chunking_is_not_seen

pub returns-clause-agree : goal.returns-clause-agree
returns-clause-agree c = chunkings_agree
