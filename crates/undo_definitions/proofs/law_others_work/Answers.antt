use Rattle.undo_definitions.proofs.Undos.{undos_leave_others_work}
use Rattle.undo_definitions.proofs.law_others_work.Goals as goal

pub returns : goal.returns
returns c = undos_leave_others_work
