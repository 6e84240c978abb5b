use Rattle.undo_definitions.proofs.Others.{undos_are_undone}
use Rattle.undo_definitions.proofs.law_undo_of_undo.Goals as goal

pub returns : goal.returns
returns c = undos_are_undone
