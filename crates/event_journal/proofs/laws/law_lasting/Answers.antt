use Rattle.event_journal.proofs.Lasting.{no_batch_is_lost}
use Rattle.event_journal.proofs.laws.law_lasting.Goals as goal

pub returns : goal.returns
returns c = no_batch_is_lost
