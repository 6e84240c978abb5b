use Rattle.undo_definitions.proofs.Undos.{undos_leave_wanted}
use Rattle.undo_definitions.proofs.law_undo.Goals as goal

pub returns : goal.returns
returns c = undos_leave_wanted
