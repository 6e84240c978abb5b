-- An event that comes behind those of a history.
use Rattle.std.specs.Prelude.{◌≡◌, ℕ, List}
use Rattle.ew_model.specs.declared.id.Id.{Id}
use Rattle.ew_model.specs.declared.event.Op.{Op}
use Rattle.ew_model.specs.declared.event.Event.{Event}
use Rattle.ew_model.specs.Positions.{positions_in}
use Rattle.ew_model.specs.Verdicts.{graph_verdict}
use Rattle.ew_model.specs.Verdicts.Ruling.{Good}

-- the event with this id and this operation that has these parents
abbrev pub event_on : Id → Op → List Id → Event
event_on id op parents = record { id = id; parents = parents; op = op }

-- the verdict on the graph alone is Good for the event behind those of the history, in which its parents stand at these positions
pub record IsGoodBehind (history : List Event) (positions : List ℕ) (e : Event) : Type 0 where
  pub good : graph_verdict history e ≡ Good
  pub placed : positions ≡ positions_in history e.parents
