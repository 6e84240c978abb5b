use Rattle.table_laws.proofs.Pasts.{heads_are_a_version}
use Rattle.table_laws.proofs.law_heads_version.Goals as goal

pub returns : goal.returns
returns c = heads_are_a_version
