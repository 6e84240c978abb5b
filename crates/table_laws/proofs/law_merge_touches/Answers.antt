use Rattle.table_laws.proofs.MergeTouches.{merges_spare}
use Rattle.table_laws.proofs.law_merge_touches.Goals as goal

pub returns : goal.returns
returns c = merges_spare
