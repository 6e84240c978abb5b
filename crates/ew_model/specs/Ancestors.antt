-- Histories, and the ancestors of ids in them. A history is the list of its events, the oldest first.
use Rattle.std.specs.Prelude.{Bool, List, map}
use Rattle.ew_model.specs.declared.id.Id.{Id}
use Rattle.ew_model.specs.declared.event.Event.{Event}
use Rattle.ew_model.specs.Ids.{id_eq, is_among}
use Rattle.ew_model.specs.Graph.{has_child, version_of, childless, none_below}

-- the ids of the events
abbrev pub ids_of : List Event → List Id
ids_of events = map (λ e. e.id) events

-- an event of the history has this id
abbrev pub is_held : List Event → Id → Bool
is_held history x = is_among (ids_of history) x

-- one of these events has this parent
abbrev pub is_parent : List Event → Id → Bool
is_parent events x = has_child (λ e. e.id) (λ e. e.parents) id_eq events x

-- the events of a version: from the end on, each that is named, or is a parent of one already taken
abbrev pub version_events : List Event → List Id → List Event
version_events history named = version_of (λ e. e.id) (λ e. e.parents) id_eq history named

-- the ids of a version: those that are named and held, and all their ancestors
abbrev pub ancestors : List Event → List Id → List Id
ancestors history named = ids_of (version_events history named)

-- the heads: the ids of the events that have no child
abbrev pub heads : List Event → List Id
heads history = childless (λ e. e.id) (λ e. e.parents) id_eq history

-- no id is an ancestor of another
unfoldable pub is_reduced : List Event → List Id → Bool
is_reduced history ids = none_below (λ e. e.id) (λ e. e.parents) id_eq history ids
