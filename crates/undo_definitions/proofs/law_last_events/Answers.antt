use Rattle.undo_definitions.proofs.Others.{undos_go_back}
use Rattle.undo_definitions.proofs.law_last_events.Goals as goal

pub returns : goal.returns
returns c = undos_go_back
