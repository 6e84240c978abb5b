use Rattle.table_laws.proofs.Joined.{merges_store}
use Rattle.table_laws.proofs.law_merge_files.Goals as goal

pub returns : goal.returns
returns c = merges_store
