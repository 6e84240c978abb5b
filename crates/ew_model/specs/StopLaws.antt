-- What stands where receiving stops between two judgements.
use Rattle.std.specs.Prelude.{◌≡◌, ℕ, true, List, ◌++◌}
use Rattle.ew_model.specs.declared.event.Event.{Event}
use Rattle.ew_model.specs.Limits.{LimitNumbers}
use Rattle.ew_model.specs.Arrival.{Answer, Outcome, judgements, desk_of, arrive}

-- What is held, and what was answered, is a front of what the whole comes to, and what is still to come is the end of what was
-- received.
pub record IsFrontOf (all : Outcome) (events : List Event) (o : Outcome) : Type 0 where
  pub held : (later : List Event) × (all.desk.held ≡ o.desk.held ++ later)
  pub answers : (later : List Answer) × (all.answers ≡ o.answers ++ later)
  pub received : (settled : List Event) × (events ≡ settled ++ o.desk.coming)

-- Any number of judgements leaves a front of what receiving all leaves.
abbrev pub JudgementsAreAFront : Type 0
JudgementsAreAFront = (limits : LimitNumbers) (held waiting events : List Event) (n : ℕ)
    → IsFrontOf (arrive limits held waiting events) events (judgements limits true n (desk_of held waiting events))
