use Rattle.undo_definitions.proofs.Undos.{undos_show_wanted}
use Rattle.undo_definitions.proofs.law_places.Goals as goal

pub returns : goal.returns
returns c = undos_show_wanted
