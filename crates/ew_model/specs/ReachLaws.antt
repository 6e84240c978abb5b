-- What ancestors are, and what is held after events were received.
use Rattle.std.specs.Prelude.{◌≡◌, ◌↔◌, List, ◌++◌, map, filter}
use Rattle.ew_model.specs.declared.id.Id.{Id}
use Rattle.ew_model.specs.declared.event.Event.{Event}
use Rattle.ew_model.specs.Sets.{Among}
use Rattle.ew_model.specs.Ancestors.{ancestors}
use Rattle.ew_model.specs.Limits.{LimitNumbers}
use Rattle.ew_model.specs.Verdicts.{IsGood}
use Rattle.ew_model.specs.Arrival.{arrive}
use Rattle.ew_model.specs.Verdicts.{is_verdict_good}

-- An id is reached from those named: it is one of them, of an event that is held, or a parent of an event that is reached.
pub data IsReached (history : List Event) (named : List Id) : Id → Type 0 where
  Named : (e : Event) → Among e history → Among e.id named → IsReached history named e.id
  ParentOf : (child e : Event) → Among child history → Among e history → Among e.id child.parents → IsReached history named child.id → IsReached history named e.id

-- Ancestors are what is reached by going from events to parents.
abbrev pub AncestorsAreReached : Type 0
AncestorsAreReached = (history : List Event) (named : List Id) → IsGood history → (x : Id) → Among x (ancestors history named) ↔ IsReached history named x

-- What was held stays, and behind it come the events that were answered Good, in order.
abbrev pub ArrivalsAppend : Type 0
ArrivalsAppend =
    (limits : LimitNumbers) (held waiting events : List Event)
    → (arrive limits held waiting events).desk.held ≡ held ++ map (λ a. a.event) (filter (λ a. is_verdict_good a.ruling) (arrive limits held waiting events).answers)
