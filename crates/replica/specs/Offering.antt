-- The events that are received, by where they are. (No public contract cites this.)
use Rattle.std.specs.Prelude.{◌≡◌, ℕ, ◌+◌, ◌<◌, List, length, slice_get, Some, ⊤}
use Rattle.std.specs.List.{All}
use Rattle.ew_model.specs.declared.event.Event.{Event}
use Rattle.event_graph.specs.Subgraphs.{events_at}
use Rattle.replica.specs.declared.offered.Source.{Source}
use Rattle.replica.specs.declared.offered.Source.TheVariants.{Listed, Held}

-- the events of a list, or those at some positions of a graph
abbrev pub offered_by : Source → List Event
offered_by (Listed events) = events.now
offered_by (Held graph positions) = events_at graph.now positions.now

-- the positions are those of events of the graph
abbrev pub AreWithin : Source → Type 0
AreWithin (Listed events) = ⊤
AreWithin (Held graph positions) = All (λ p. p < length graph.now) positions.now

-- these events stand in a list directly one after another, the first of them at a place
abbrev pub StandAt : List Event → ℕ → List Event → Type 0
StandAt events place some = (k : ℕ) (e : Event) → slice_get some k ≡ Some e → slice_get events (place + k) ≡ Some e
