use Rattle.table_laws.proofs.Alike.{conversations_agree}
use Rattle.table_laws.proofs.law_conversations_agree.Goals as goal

pub returns : goal.returns
returns c = conversations_agree
