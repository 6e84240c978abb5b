-- What a graph keeps of its history, and which histories it may have.
use Rattle.std.specs.Prelude.{◌≡◌, ℕ, List, [], ◌∷◌, ◌++◌, map, slice_index_or}
use Rattle.ew_model.specs.declared.id.Id.{Id}
use Rattle.ew_model.specs.declared.event.Event.{Event}
use Rattle.ew_model.specs.Ancestors.{ids_of}
use Rattle.ew_model.specs.Ids.{id_cmp}
use Rattle.ew_model.specs.Positions.{frontier_of, positions_in, parent_positions}
use Rattle.ew_model.specs.Sorting.{sort_by}
use Rattle.ew_model.specs.Sound.{AreSound}
use Rattle.ew_model.specs.Verdicts.{graph_verdict}
use Rattle.ew_model.specs.Verdicts.Ruling.{Good}
use Rattle.critical.specs.KeptCuts.{KeptCuts, kept_for}
use Rattle.event_runs.specs.BareEvents.{BareEvent, bare}

-- each of the events is judged good by the events held before it
abbrev pub AreAdmittedAfter : List Event → List Event → Type 0
AreAdmittedAfter held [] = Unit {0}
AreAdmittedAfter held (e ∷ events) = (graph_verdict held e ≡ Good) × AreAdmittedAfter (held ++ e ∷ []) events

-- a history whose events came one after another, each judged good
abbrev pub IsAdmitted : List Event → Type 0
IsAdmitted history = AreAdmittedAfter [] history

-- the id at a position
abbrev pub id_of : List Id → ℕ → Id
id_of ids position = slice_index_or ids position (record { agent = []; seq = 0 })

-- the ids at these positions, ascending
abbrev pub ascending_at : List Id → List ℕ → List Id
ascending_at ids positions = sort_by id_cmp (map (id_of ids) positions)

-- the events with these ids, their parents' positions being those of ids among all
abbrev pub events_with : List Id → List Id → List BareEvent → List Event
events_with all [] events = []
events_with all (x ∷ ids) [] = []
events_with all (x ∷ ids) (e ∷ events) = record { id = x; parents = ascending_at all e.parents; op = e.op } ∷ events_with all ids events

-- the history of which these are the ids, and the events without them
abbrev pub history_of : List Id → List BareEvent → List Event
history_of ids events = events_with ids ids events

-- the events of a history without their ids
abbrev pub bare_events : List Event → List BareEvent
bare_events history = map (λ (e : Event). bare e.op (positions_in history e.parents)) history

-- what is kept is that of an admitted history
pub record IsKeptOf (history : List Event) (ids : List Id) (events : List BareEvent) (heads : List ℕ) (cuts : KeptCuts) : Type 0 where
  pub admitted : IsAdmitted history
  pub sound : AreSound history
  pub ids_are : ids ≡ ids_of history
  pub events_are : events ≡ bare_events history
  pub heads_are : heads ≡ frontier_of (parent_positions history)
  pub cuts_are : cuts ≡ kept_for (parent_positions history)
