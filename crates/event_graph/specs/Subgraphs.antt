-- The part of a history that a version holds.
use Rattle.std.specs.Prelude.{ℕ, List, filter, flat_map, slice_get}
use Rattle.std.specs.Option.{option_to_list}
use Rattle.ew_model.specs.declared.id.Id.{Id}
use Rattle.ew_model.specs.declared.event.Event.{Event}
use Rattle.ew_model.specs.Ancestors.{ancestors}
use Rattle.ew_model.specs.Ids.{is_among}

-- the events of the history whose ids are named or are ancestors of such, in the history's order
abbrev pub subgraph_of : List Event → List Id → List Event
subgraph_of history named = filter (λ (e : Event). is_among (ancestors history named) e.id) history

-- the events at these positions
abbrev pub events_at : List Event → List ℕ → List Event
events_at history positions = flat_map (λ position. option_to_list (slice_get history position)) positions
