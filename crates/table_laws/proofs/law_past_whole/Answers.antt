use Rattle.table_laws.proofs.Pasts.{heads_show_all}
use Rattle.table_laws.proofs.law_past_whole.Goals as goal

pub returns : goal.returns
returns c = heads_show_all
