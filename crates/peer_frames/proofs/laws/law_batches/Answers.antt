use Rattle.peer_frames.proofs.Journals.{one_journal}
use Rattle.peer_frames.proofs.laws.law_batches.Goals as goal

pub returns : goal.returns
returns c = one_journal
