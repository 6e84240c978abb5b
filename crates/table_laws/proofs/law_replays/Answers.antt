use Rattle.table_laws.proofs.Pasts.{replays_make_content}
use Rattle.table_laws.proofs.law_replays.Goals as goal

pub returns : goal.returns
returns c = replays_make_content
