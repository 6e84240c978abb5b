-- What is read of a content so far.
use Rattle.std.specs.Prelude.{◌≡◌, ◌↔◌, ℕ, ◌-◌, true, List, [], ◌∷◌, ◌++◌, length, take, get_or, slice_get, Some, Ok}
use Rattle.std.specs.List.{list_any}
use Rattle.ew_model.specs.declared.id.Id.{Id}
use Rattle.ew_model.specs.declared.event.Op.{Op}
use Rattle.ew_model.specs.declared.event.Event.{Event}
use Rattle.ew_model.specs.Ids.{name_eq}
use Rattle.ew_model.specs.Ancestors.{ids_of, is_held}
use Rattle.ew_model.specs.Distinct.{AreDistinct}
use Rattle.ew_model.specs.Writable.{agents_of}
use Rattle.file_words.specs.FileFaults.{open_agents, byte, number, read_record}
use Rattle.history_definitions.specs.Chains.{next_id, event_behind, last_id}
use Rattle.event_file.specs.declared.short_id.ShortId.{ShortId}
use Rattle.event_file.specs.Known.{known_by, id_by}

-- the agents that the file names, and its events so far
pub record Known : Type 0 where
  pub agents : List (List ℕ)
  pub events : List Event

-- the agents are distinct and begin with those of the events, of which there are `used`, and the ids that it has are the events'
pub record IsIndexed (agents : List (List ℕ)) (events : List Event) (used : ℕ) (Has : Id → Type 0) : Type 0 where
  pub distinct : AreDistinct name_eq agents
  pub begin : agents_of events ≡ take used agents
  pub count : length (agents_of events) ≡ used
  pub ids : (x : Id) → Has x ↔ (is_held events x ≡ true)

-- at this place among the agents stands one that may have the next record
pub record IsOpenAt (agents : List (List ℕ)) (events : List Event) (place : ℕ) (agent : List ℕ) : Type 0 where
  pub at : slice_get agents place ≡ Some agent
  pub is_open : list_any (name_eq agent) (open_agents agents events) ≡ true

-- the last event has this position and this id, and its agent is the one at its place among the agents of the events, and
-- among the open ones
pub record IsLast (known : Known) (position : ℕ) (x : ShortId) : Type 0 where
  pub position_is : position ≡ length known.events - 1
  pub at : slice_get (ids_of known.events) position ≡ Some (id_by known.agents x)
  pub agent : slice_get (agents_of known.events) x.agent ≡ Some (get_or known.agents x.agent [])
  pub is_open : slice_get (open_agents known.agents known.events) x.agent ≡ Some (get_or known.agents x.agent [])

-- the bytes begin with a record's agent, number and one parent, each told by its number
pub record BeginsBy (place seq position : ℕ) (bytes left : List ℕ) : Type 0 where
  pub behind_place : List ℕ
  pub behind_seq : List ℕ
  pub behind_count : List ℕ
  pub place_read : number bytes ≡ Ok (place, behind_place)
  pub seq_read : number behind_place ≡ Ok (seq, behind_seq)
  pub count_read : byte behind_seq ≡ Ok (1, behind_count)
  pub position_read : number behind_count ≡ Ok (position, left)

-- the bytes begin with the record of an event with this operation that goes on from the last one, and its id is known then
pub record ReadsOn (op : Op) (old new : Known) (bytes left : List ℕ) : Type 0 where
  pub last : Id
  pub is_last : last_id old.events ≡ Some last
  pub read : read_record old.agents old.events bytes ≡ Ok (event_behind last op, left)
  pub kept : new ≡ record { agents = old.agents; events = old.events ++ known_by (next_id last) ∷ [] }
