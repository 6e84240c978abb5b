use Rattle.table_laws.proofs.BothWays.{merges_agree}
use Rattle.table_laws.proofs.law_merge_both_ways.Goals as goal

pub returns : goal.returns
returns c = merges_agree
