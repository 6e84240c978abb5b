use Rattle.undo_definitions.proofs.Others.{undos_leave_others_text}
use Rattle.undo_definitions.proofs.law_others_text.Goals as goal

pub returns : goal.returns
returns c = undos_leave_others_text
