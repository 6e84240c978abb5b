use Rattle.table_laws.proofs.Journals.{exports_open}
use Rattle.table_laws.proofs.law_export.Goals as goal

pub returns : goal.returns
returns c = exports_open
