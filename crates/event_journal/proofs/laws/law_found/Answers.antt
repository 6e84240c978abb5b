use Rattle.event_journal.proofs.Found.{batches_found}
use Rattle.event_journal.proofs.laws.law_found.Goals as goal

pub returns : goal.returns
returns c = batches_found
