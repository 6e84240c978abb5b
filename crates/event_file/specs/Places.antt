-- Where things stand in a list without repeats.
use Rattle.std.specs.Prelude.{◌≡◌, ℕ, Bool, List, map, Option, Some, None, if◌then◌else◌}
use Rattle.std.specs.List.{list_any, position_or_len}
use Rattle.ew_model.specs.declared.id.Id.{Id}
use Rattle.ew_model.specs.declared.event.Event.{Event}
use Rattle.ew_model.specs.Ancestors.{ids_of}
use Rattle.ew_model.specs.Ids.{name_eq, id_eq}
use Rattle.ew_model.specs.Writable.{agents_of}

abbrev pub place_in : {X : Type 0} → (X → X → Bool) → List X → X → Option ℕ
place_in eq xs x = if list_any (eq x) xs then Some (position_or_len (eq x) xs) else None

-- the table has the place of each of these, and nothing else
abbrev pub HasPlaces : {X : Type 0} → (X → X → Bool) → (X → Option ℕ) → List X → Type 0
HasPlaces {X} eq table xs = (x : X) → table x ≡ place_in eq xs x

-- the place of an agent among those of the events
abbrev pub agent_place : List Event → List ℕ → ℕ
agent_place history agent = position_or_len (name_eq agent) (agents_of history)

-- the place of the event with this id
abbrev pub place_of : List Event → Id → ℕ
place_of history x = position_or_len (id_eq x) (ids_of history)

-- the places of the events with these ids, in their order
abbrev pub places_of : List Event → List Id → List ℕ
places_of history ids = map (place_of history) ids
