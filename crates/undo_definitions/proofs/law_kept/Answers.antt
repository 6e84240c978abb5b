use Rattle.undo_definitions.proofs.Undos.{undos_keep}
use Rattle.undo_definitions.proofs.law_kept.Goals as goal

pub returns : goal.returns
returns c = undos_keep
