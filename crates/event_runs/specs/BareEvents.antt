-- Events without their ids.
use Rattle.std.specs.Prelude.{ℕ, List, map}
use Rattle.ew_model.specs.declared.event.Op.{Op}

-- what an event does, and its parents' positions
pub record BareEvent : Type 0 where
  pub op : Op
  pub parents : List ℕ

abbrev pub bare : Op → List ℕ → BareEvent
bare op parents = record { op = op; parents = parents }

-- the operations, the oldest first
abbrev pub ops_in : List BareEvent → List Op
ops_in events = map (λ (e : BareEvent). e.op) events

-- the parents of each event, the oldest event first
abbrev pub parents_in : List BareEvent → List (List ℕ)
parents_in events = map (λ (e : BareEvent). e.parents) events
