-- The events that wait for their parents.
use Rattle.std.specs.Prelude.{ℕ, Bool, List, [], ◌∷◌, ◌++◌, map, Option, None, find, if◌then◌else◌}
use Rattle.ew_model.specs.declared.id.Id.{Id}
use Rattle.ew_model.specs.declared.event.Event.{Event}
use Rattle.ew_model.specs.Ids.{id_eq}
use Rattle.waiting_pool.specs.declared.waiter.Waiter.{Waiter}
use Rattle.waiting_pool.specs.Places.{same_missing}

-- how many events may wait, how many of the events held were looked at, and those that wait, in order of arrival
pub record Waiting : Type 0 where
  pub limit : ℕ
  pub seen : ℕ
  pub waiters : List Waiter

-- the events that wait, in order of arrival
abbrev pub events_of : Waiting → List Event
events_of w = map (λ x. x.event) w.waiters

-- the list, but for the first element that passes
abbrev pub without_first : {X : Type 0} → (X → Bool) → List X → List X
without_first p [] = []
without_first p (x ∷ xs) = if p x then xs else x ∷ without_first p xs

-- the first of the events that has the id
abbrev pub event_with : List Event → Id → Option Event
event_with events x = find (λ e. id_eq x e.id) events

-- the events, but for the first that has the id
abbrev pub without : List Event → Id → List Event
without events x = without_first (λ e. id_eq x e.id) events

-- the event has the id
abbrev pub has_id : Id → Waiter → Bool
has_id x w = id_eq x w.event.id

-- this parent of the event is known to be missing, or none is
abbrev pub has_missing : Option Id → Waiter → Bool
has_missing missing w = same_missing w.missing missing

-- the same with one more event behind the others
abbrev pub put_behind : Waiting → Event → Waiting
put_behind w e = record { limit = w.limit; seen = w.seen; waiters = w.waiters ++ record { event = e; missing = None } ∷ [] }

-- the same without the event that has the id
abbrev pub taken_out : Waiting → Id → Waiting
taken_out w x = record { limit = w.limit; seen = w.seen; waiters = without_first (has_id x) w.waiters }

-- the waiting events, of which the first that has the id has this parent missing
abbrev pub with_missing : Id → Option Id → List Waiter → List Waiter
with_missing x missing [] = []
with_missing x missing (w ∷ waiters) =
    if has_id x w then record { event = w.event; missing = missing } ∷ waiters else w ∷ with_missing x missing waiters
