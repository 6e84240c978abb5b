-- Which characters of a history are deleted, and which its text shows.
use Rattle.std.specs.Prelude.{Bool, List, map}
use Rattle.ew_model.specs.declared.id.Id.{Id}
use Rattle.ew_model.specs.declared.event.Event.{Event}
use Rattle.ew_model.specs.Ancestors.{ids_of}
use Rattle.ew_model.specs.Entries.{Inserted, is_deleted, visible}
use Rattle.ew_model.specs.Tree.{all_entries, tree}

-- whether a deletion of the history targets the id of each event; that of an event that inserts no character is of no use
abbrev pub are_deleted : List Event → List Bool
are_deleted history = map (is_deleted (all_entries 0 (tree history))) (ids_of history)

-- the ids of the characters that the text shows, in its order
abbrev pub shown_ids : List Event → List Id
shown_ids history = map (λ (z : Inserted). z.id) (visible (all_entries 0 (tree history)))
