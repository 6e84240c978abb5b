-- What a new event comes after. (No public contract cites this.)
use Rattle.std.specs.Prelude.{◌≡◌, ◌≢◌, ℕ, ◌-◌, List, [], ◌∷◌, length, Option, Some, option_map}
use Rattle.ew_model.specs.declared.id.Id.{Id}
use Rattle.ew_model.specs.declared.event.Op.{Op}
use Rattle.ew_model.specs.declared.event.Event.{Event}
use Rattle.ew_model.specs.Ancestors.{ids_of, heads}
use Rattle.ew_model.specs.Positions.{positions_in}
use Rattle.ew_model.specs.Sound.{IsSound}
use Rattle.agent_ids.specs.IdRuns.{last_in}
use Rattle.history_definitions.specs.Chains.{next_id}
use Rattle.event_graph.specs.Joining.{IsGoodBehind}
use Rattle.event_graph.specs.declared.parts.After.{After}
use Rattle.event_graph.specs.declared.parts.After.TheVariants.{Last, Heads, Other}

-- the id of the event, which comes after events with these ids
abbrev pub id_after : After → List Id → Option Id
id_after Last ids = option_map next_id (last_in ids)
id_after (Heads x) ids = Some x
id_after (Other x) ids = Some x

-- these parents are the last of so many events and the only head, or all of the heads, or others
abbrev pub StandsOn : After → ℕ → List ℕ → List ℕ → Type 0
StandsOn Last count heads parents = (parents ≡ heads) × (parents ≡ (count - 1) ∷ [])
StandsOn (Heads x) count heads parents = parents ≡ heads
StandsOn (Other x) count heads parents = parents ≢ heads

-- the event is good after those of the history, has parents at these positions and this operation, and comes after what is said
pub record IsNextAfter (history : List Event) (after : After) (positions : List ℕ) (op : Op) (e : Event) : Type 0 where
  pub good : IsGoodBehind history positions e
  pub sound : IsSound e
  pub id : id_after after (ids_of history) ≡ Some e.id
  pub op_is : e.op ≡ op
  pub stands : StandsOn after (length history) (positions_in history (heads history)) positions
