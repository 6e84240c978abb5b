use Rattle.table_laws.proofs.Journals.{watches_edit}
use Rattle.table_laws.proofs.law_watch.Goals as goal

pub returns : goal.returns
returns c = watches_edit
