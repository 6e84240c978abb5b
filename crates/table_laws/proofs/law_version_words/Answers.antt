use Rattle.table_laws.proofs.Pasts.{versions_are_taken}
use Rattle.table_laws.proofs.law_version_words.Goals as goal

pub returns : goal.returns
returns c = versions_are_taken
