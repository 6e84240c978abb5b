-- Applied events in runs.
use Rattle.std.specs.Prelude.{◌≡◌, ℕ, suc, ◌+◌, ◌-◌, ◌<◌, ◌≤◌, ◌^◌, List, [], ◌∷◌, ◌++◌, Option, Some, None, map, slice_get}
use Rattle.std.specs.List.{range_with_len}
use Rattle.ew_model.specs.declared.node.Node.{Node}
use Rattle.ew_model.specs.declared.node.Node.TheVariants.{Root, Base, Event}
use Rattle.advance_retreat.specs.declared.line.Way.{Way}
use Rattle.advance_retreat.specs.declared.line.Way.TheVariants.{Up, Down}
use Rattle.advance_retreat.specs.declared.run.Run.{Run}
use Rattle.advance_retreat.specs.declared.target.Target.{Target}
use Rattle.advance_retreat.specs.Kept.{target_at}

-- the number so many steps away from another
abbrev pub number_from : Way → ℕ → ℕ → ℕ
number_from Up n steps = n + steps
number_from Down n steps = n - steps

-- the character so many steps away from another, among the base characters or among the events'; the root stays
abbrev pub node_from : Way → Node → ℕ → Node
node_from way Root steps = Root
node_from way (Base n) steps = Base (number_from way n steps)
node_from way (Event n) steps = Event (number_from way n steps)

-- the event so many positions behind a first one, about the character so many steps from the first one's
abbrev pub event_from : Way → Node → ℕ → ℕ → Target
event_from way v lv steps = record { lv = lv + steps; node = node_from way v steps }

-- so many of these events, one behind another, the first of them so many positions behind the first one
abbrev pub events_from : Way → Node → ℕ → ℕ → ℕ → List Target
events_from way v lv steps count = map (event_from way v lv) (range_with_len steps count)

-- the events of the runs
abbrev pub events_in : List Run → List Target
events_in [] = []
events_in (r ∷ runs) = events_from r.way r.node r.first 0 (suc r.more) ++ events_in runs

-- there are none without a last one
abbrev pub EndIn : List Run → Option Run → Type 0
EndIn runs last = last ≡ None → runs ≡ []

-- so many steps lead to numbers: on the way up they stay below 2^32, on the way down they don't go below 0
abbrev pub HasSteps : Way → ℕ → ℕ → Type 0
HasSteps Up n more = n + more < 2 ^ 32
HasSteps Down n more = more ≤ n

-- so many steps from a character lead to others of its kind
abbrev pub HasNodes : Way → Node → ℕ → Type 0
HasNodes way Root more = Unit {0}
HasNodes way (Base n) more = HasSteps way n more
HasNodes way (Event n) more = HasSteps way n more

-- the runs stand one behind the other, from a position on. All positions are below 2^32, and there are nodes for all steps of a run
abbrev pub AreRuns : ℕ → List Run → Type 0
AreRuns low [] = Unit {0}
AreRuns low (r ∷ runs) = (low ≤ r.first) × (r.first + r.more < 2 ^ 32) × HasNodes r.way r.node r.more × AreRuns (suc (r.first + r.more)) runs

-- the runs end before a position
abbrev pub AreBelow : ℕ → List Run → Type 0
AreBelow lv runs = (k : ℕ) (r : Run) → slice_get runs k ≡ Some r → r.first + r.more < lv

-- the character is the one behind the run's last
pub record IsNextCharacter (r : Run) (v : Node) : Type 0 where
  pub node : v ≡ node_from r.way r.node (suc r.more)
  pub nodes : HasNodes r.way r.node (suc r.more)

-- an event at the position, about the character, goes on with the run
pub record GoesOn (r : Run) (lv : ℕ) (v : Node) : Type 0 where
  pub next : lv ≡ suc (r.first + r.more)
  pub character : IsNextCharacter r v

-- the run has the event at a position
abbrev pub HasEvent : Run → ℕ → Type 0
HasEvent r n = (r.first ≤ n) × (n - r.first ≤ r.more)

-- the events of the run are about its characters
abbrev pub HasRun : List Target → Run → Type 0
HasRun targets r = (n : ℕ) → HasEvent r n → target_at targets n ≡ Some (node_from r.way r.node (n - r.first))

-- the way of a run's characters, where its events are on this way
abbrev pub way_in : Way → Way → Way
way_in Up way = way
way_in Down Up = Down
way_in Down Down = Up

-- how many of a run's events there are from one on, on this way
abbrev pub count_from : Way → Run → ℕ → ℕ
count_from Up r event = (r.more - (event - r.first)) + 1
count_from Down r event = (event - r.first) + 1

-- the run has the event at a position, and each of its events is about what the runs tell
pub record Tells (runs : List Run) (lv : ℕ) (r : Run) : Type 0 where
  pub held : HasEvent r lv
  pub nodes : HasNodes r.way r.node r.more
  pub has : (later : List Target) → HasRun (events_in runs ++ later) r

-- the runs tell of no event at a position
abbrev pub TellNone : List Run → ℕ → Type 0
TellNone runs lv = (later : List Target) → target_at (events_in runs ++ later) lv ≡ target_at later lv

-- a run of one event
abbrev pub alone : ℕ → Node → Run
alone lv v = record { first = lv; more = 0; node = v; way = Up }

-- the run at a place has the event at a position
abbrev pub HasAt : List Run → ℕ → ℕ → Type 0
HasAt runs place n = (r : Run) × (slice_get runs place ≡ Some r) × HasEvent r n

-- no run has the event at a position but the one at this place
abbrev pub IsPlaceOf : List Run → ℕ → ℕ → Type 0
IsPlaceOf runs place n = (k : ℕ) → HasAt runs k n → k ≡ place

-- these runs have the events of those, and one more
abbrev pub HaveMore : List Run → List Run → ℕ → Node → Type 0
HaveMore new old lv v = AreRuns 0 new × (events_in new ≡ events_in old ++ record { lv = lv; node = v } ∷ [])

-- these runs have the events of those but for the last
abbrev pub HaveFewer : List Run → List Run → Type 0
HaveFewer new old = AreRuns 0 new × (t : Target) × (events_in old ≡ events_in new ++ t ∷ [])

-- the run is of insertions, the last of them at the position
pub record IsTypedTo (r : Run) (position : ℕ) : Type 0 where
  pub node : r.node ≡ Event r.first
  pub way : r.way ≡ Up
  pub last : position ≡ r.first + r.more
