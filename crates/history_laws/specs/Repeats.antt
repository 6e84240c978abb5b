-- What receiving events that are held already comes to.
use Rattle.std.specs.Prelude.{◌≡◌, ◌+◌, not, List, ◌++◌, filter, length}
use Rattle.ew_model.specs.declared.event.Event.{Event}
use Rattle.ew_model.specs.Ancestors.{is_held}
use Rattle.ew_model.specs.Arrival.{arrive}
use Rattle.ew_model.specs.ArrivalLaw.{NoneReady, OneEach}
use Rattle.ew_model.specs.Limits.{LimitNumbers}
use Rattle.ew_model.specs.Rounds.{most_touches}
use Rattle.history_definitions.specs.Tallies.{accepted_in, refused_in, repeats_in}

-- the events whose ids aren't held, in order
abbrev pub without_held : List Event → List Event → List Event
without_held history events = filter (λ (e : Event). not (is_held history e.id)) events

-- received at one place, the two lists of events leave the same events held and the same waiting, and take as many touches
pub record LeaveTheSame (limits : LimitNumbers) (history waiting xs ys : List Event) : Type 0 where
  pub held : (arrive limits history waiting xs).desk.held ≡ (arrive limits history waiting ys).desk.held
  pub waits : (arrive limits history waiting xs).desk.waiting ≡ (arrive limits history waiting ys).desk.waiting
  pub touches : most_touches limits history waiting xs ≡ most_touches limits history waiting ys

-- received at one place, of both lists of events as many are appended and the same are refused, and the one has as many more repeats
-- as it has events
pub record AreAnsweredAlike (limits : LimitNumbers) (history waiting xs ys : List Event) : Type 0 where
  pub accepted : accepted_in (arrive limits history waiting xs).answers ≡ accepted_in (arrive limits history waiting ys).answers
  pub refused : refused_in (arrive limits history waiting xs).answers ≡ refused_in (arrive limits history waiting ys).answers
  pub repeats : repeats_in (arrive limits history waiting xs).answers + length ys ≡ repeats_in (arrive limits history waiting ys).answers + length xs

-- Events whose ids are held may be left out of what is received, where no waiting event is ready.
abbrev pub HeldEventsChangeNothing : Type 0
HeldEventsChangeNothing = (limits : LimitNumbers) (history waiting events : List Event) → NoneReady history waiting
    → LeaveTheSame limits history waiting (without_held history events) events

-- Where there is one event for each id, those that are left out are repeats, and nothing else is answered otherwise.
abbrev pub HeldEventsAreRepeats : Type 0
HeldEventsAreRepeats = (limits : LimitNumbers) (history waiting events : List Event) → NoneReady history waiting → OneEach (history ++ events)
    → AreAnsweredAlike limits history waiting (without_held history events) events
