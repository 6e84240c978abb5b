-- What is needed to come back to a history that has grown since.
use Rattle.std.specs.Prelude.{ℕ, List, length}
use Rattle.ew_model.specs.declared.event.Event.{Event}
use Rattle.ew_model.specs.Positions.{frontier_of, parent_positions}
use Rattle.critical.specs.KeptCuts.{KeptCuts, kept_for}

-- how many events a history has, the positions of its heads, and its critical cuts
pub record Standing : Type 0 where
  pub count : ℕ
  pub heads : List ℕ
  pub cuts : KeptCuts

-- where a history stands
abbrev pub hold_of : List Event → Standing
hold_of history = record { count = length history; heads = frontier_of (parent_positions history); cuts = kept_for (parent_positions history) }
