-- Events that go on right behind the last one of a history.
use Rattle.std.specs.Prelude.{◌≡◌, List, [], ◌∷◌, Some}
use Rattle.ew_model.specs.declared.id.Id.{Id}
use Rattle.ew_model.specs.declared.event.Op.{Op}
use Rattle.ew_model.specs.declared.event.Event.{Event}
use Rattle.history_definitions.specs.Chains.{event_behind, last_id, next_id}

-- the event is the next one of the last event's agent, and that event is its one parent
abbrev pub GoesOn : List Event → Event → Type 0
GoesOn history e = (x : Id) × (last_id history ≡ Some x) × (e.id ≡ next_id x) × (e.parents ≡ x ∷ [])

-- the events with these operations in a chain: the first goes on from an event with this id, each further one from the event before it
abbrev pub chain_behind : Id → List Op → List Event
chain_behind x [] = []
chain_behind x (op ∷ ops) = event_behind x op ∷ chain_behind (next_id x) ops
