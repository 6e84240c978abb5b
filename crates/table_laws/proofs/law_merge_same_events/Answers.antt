use Rattle.table_laws.proofs.BothWays.{merges_hold_same}
use Rattle.table_laws.proofs.law_merge_same_events.Goals as goal

pub returns : goal.returns
returns c = merges_hold_same
