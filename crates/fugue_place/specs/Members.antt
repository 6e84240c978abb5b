-- Children as they are kept: in runs, with the names of their agents apart.
use Rattle.std.specs.Prelude.{◌≡◌, ℕ, zero, suc, ◌+◌, ◌-◌, ◌<◌, ◌^◌, nat_lt, nat_le, Bool, ◌&&◌, List, [], ◌∷◌, ◌++◌, length, get_or, map, Some, slice_get}
use Rattle.std.specs.List.{range_with_len}
use Rattle.ew_model.specs.declared.node.Node.{Node}
use Rattle.ew_model.specs.declared.node.Node.TheVariants.{Event}
use Rattle.fugue_place.specs.declared.child.Side.{Side}
use Rattle.fugue_place.specs.declared.child.Side.TheVariants.{Right}
use Rattle.fugue_place.specs.declared.child.Attached.{Attached}
use Rattle.fugue_place.specs.declared.children.Run.{Run}

-- children, the names that have numbers, and for how many more runs there is room
pub record Listed : Type 0 where
  pub items : List Attached
  pub names : List (List ℕ)
  pub room : ℕ

-- Where the child hangs that stands so many places behind the first of a run, which has this event: each later one on the
-- right of the one before it.
abbrev pub parent_at : Node → ℕ → ℕ → Node
parent_at first event zero = first
parent_at first event (suc i) = Event (event + i)

abbrev pub side_at : Side → ℕ → Side
side_at first zero = first
side_at first (suc i) = Right

-- the child itself, by the name of its agent
abbrev pub child_by : List ℕ → Run → ℕ → Attached
child_by agent r i = record { parent = parent_at r.parent r.event i; side = side_at r.side i; id = record { agent = agent; seq = r.seq + i }; node = Event (r.event + i) }

-- its agent's name being that with the number
abbrev pub child_of : List (List ℕ) → Run → ℕ → Attached
child_of names r = child_by (get_or names r.agent []) r

-- the children of the runs
abbrev pub children_of : List (List ℕ) → List Run → List Attached
children_of names [] = []
children_of names (r ∷ runs) = map (child_of names r) (range_with_len 0 (suc r.heirs)) ++ children_of names runs

-- The run begins at the place. Its agent has a name, and the numbers are small enough.
pub record IsRun (names : List (List ℕ)) (start : ℕ) (r : Run) : Type 0 where
  pub place : r.place ≡ start
  pub agent : r.agent < length names
  pub seqs : r.seq + r.heirs < 2 ^ 32
  pub events : r.event + r.heirs < 2 ^ 32

-- The runs stand one behind the other, the first of them from a place on, up to a place.
abbrev pub AreRuns : List (List ℕ) → ℕ → List Run → ℕ → Type 0
AreRuns names start [] end = start ≡ end
AreRuns names start (r ∷ runs) end = IsRun names start r × AreRuns names (start + suc r.heirs) runs end

-- so they do from the first place on, up to some place
abbrev pub AreSomeRuns : List Run → Type 0
AreSomeRuns runs = (names : List (List ℕ)) × (end : ℕ) × AreRuns names 0 runs end

-- the run is the last one
abbrev pub IsLastRun : List Run → Run → Type 0
IsLastRun runs r = slice_get runs (length runs - 1) ≡ Some r

-- The run goes on with an agent's number and an event: they are the next ones of it.
pub record GoesOn (r : Run) (number next position : ℕ) : Type 0 where
  pub agent : r.agent ≡ number
  pub seq : next ≡ r.seq + suc r.heirs
  pub event : position ≡ r.event + suc r.heirs

-- the run ends with the node of the event, and its numbers leave room for so many heirs more
pub record TakesHeirs (r : Run) (newest n : ℕ) : Type 0 where
  pub event : r.event + r.heirs ≡ newest
  pub seqs : r.seq + r.heirs + n < 2 ^ 32

-- the last of the runs has so many heirs more
abbrev pub with_heirs : List Run → ℕ → List Run
with_heirs [] n = []
with_heirs (r ∷ []) n = record { place = r.place; parent = r.parent; side = r.side; agent = r.agent; seq = r.seq; event = r.event; heirs = r.heirs + n } ∷ []
with_heirs (r ∷ s ∷ runs) n = r ∷ with_heirs (s ∷ runs) n

-- the run begins ahead of a place, at an event or before it
abbrev pub is_ahead : ℕ → ℕ → Run → Bool
is_ahead end event r = nat_lt r.place end && nat_le r.event event
