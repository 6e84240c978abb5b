-- Events that go on from one another.
use Rattle.std.specs.Prelude.{suc, ◌-◌, List, [], ◌∷◌, length, Option, slice_get}
use Rattle.ew_model.specs.declared.id.Id.{Id}
use Rattle.ew_model.specs.declared.event.Op.{Op}
use Rattle.ew_model.specs.declared.event.Event.{Event}
use Rattle.ew_model.specs.Ancestors.{ids_of}

-- the next id of this one's agent
abbrev pub next_id : Id → Id
next_id x = record { agent = x.agent; seq = suc x.seq }

-- the event with this operation that goes on from an event with this id: its agent's next one, with that event as its only parent
abbrev pub event_behind : Id → Op → Event
event_behind x op = record { id = next_id x; parents = x ∷ []; op = op }

-- the id of the last of these events, if there is one
abbrev pub last_id : List Event → Option Id
last_id events = slice_get (ids_of events) (length events - 1)
