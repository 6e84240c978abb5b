-- The events that are to be undone.
use Rattle.std.specs.Prelude.{List}
use Rattle.ew_model.specs.declared.id.Id.{Id}
use Rattle.undo.specs.declared.undone.Undone.{Undone}
use Rattle.undo_definitions.specs.Wanted.{ids_from}

-- their ids
abbrev pub undone_ids : Undone → List Id
undone_ids u = ids_from u.agent u.first u.count
