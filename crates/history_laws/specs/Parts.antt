-- What receiving a list of events in two parts comes to.
use Rattle.std.specs.Prelude.{◌≡◌, List, ◌++◌}
use Rattle.ew_model.specs.declared.event.Event.{Event}
use Rattle.ew_model.specs.Arrival.{Outcome, arrive}
use Rattle.ew_model.specs.Limits.{LimitNumbers}

-- the whole leaves what the second part leaves, and its answers are those of the first part and then those of the second
pub record AreItsParts (whole first second : Outcome) : Type 0 where
  pub held : whole.desk.held ≡ second.desk.held
  pub waits : whole.desk.waiting ≡ second.desk.waiting
  pub answers : whole.answers ≡ first.answers ++ second.answers

-- Receiving events in two parts, one after the other, leaves and answers what receiving all at once does.
abbrev pub PartsAreTheWhole : Type 0
PartsAreTheWhole = (limits : LimitNumbers) (history waiting xs ys : List Event) → let first = arrive limits history waiting xs in
    AreItsParts (arrive limits history waiting (xs ++ ys)) first (arrive limits first.desk.held first.desk.waiting ys)
