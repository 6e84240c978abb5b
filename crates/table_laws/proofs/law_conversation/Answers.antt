use Rattle.table_laws.proofs.Brought.{conversations_bring}
use Rattle.table_laws.proofs.law_conversation.Goals as goal

pub returns : goal.returns
returns c = conversations_bring
