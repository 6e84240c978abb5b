-- Events that are given one after another, to be loaded.
use Rattle.std.specs.Prelude.{List, Option}
use Rattle.ew_model.specs.declared.event.Event.{Event}
use Rattle.ew_model.specs.Limits.{LimitNumbers}
use Rattle.ew_model.specs.Verdicts.{Ruling}
use Rattle.event_graph.specs.Keeping.{IsAdmitted}
use Rattle.replica.specs.Fronts.{IsAdmittedFront}

-- What is kept of events that are given: the limits, the events up to the first that isn't good by its id and its parents alone, and
-- the ruling on that one.
pub record Given : Type 0 where
  pub limits : LimitNumbers
  pub admitted : List Event
  pub refused : Option Ruling

-- these events were given, in this order, and no others
pub record WereGiven (events : List Event) (given : Given) : Type 0 where
  pub admitted : IsAdmitted given.admitted
  pub front : IsAdmittedFront given.admitted given.refused events
