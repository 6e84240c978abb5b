-- What is held, what was judged, by which answers, and what is still to come, where receiving stops between two judgements.
use Rattle.std.specs.Prelude.{◌≡◌, ℕ, Bool, true, false, not, List, ◌++◌, map, filter, take, IsPermutation}
use Rattle.std.specs.List.{AllByRecursion}
use Rattle.ew_model.specs.declared.event.Event.{Event}
use Rattle.ew_model.specs.Limits.{LimitNumbers}
use Rattle.ew_model.specs.Verdicts.{Ruling, is_verdict_good}
use Rattle.ew_model.specs.Verdicts.Ruling.{Unknown}
use Rattle.ew_model.specs.Arrival.{Answer, Outcome, judgements, desk_of}

-- the event is told to wait for a parent
abbrev pub is_told_to_wait : Ruling → Bool
is_told_to_wait (Unknown parent) = true
is_told_to_wait ruling = false

-- the events that were told to wait
abbrev pub told_to_wait : List Answer → List Event
told_to_wait answers = map (λ (a : Answer). a.event) (filter (λ (a : Answer). is_told_to_wait a.ruling) answers)

-- the events that got any other answer, which is their last
abbrev pub answered_at_last : List Answer → List Event
answered_at_last answers = map (λ (a : Answer). a.event) (filter (λ (a : Answer). not (is_told_to_wait a.ruling)) answers)

-- the events that were answered Good
abbrev pub answered_good : List Answer → List Event
answered_good answers = map (λ (a : Answer). a.event) (filter (λ (a : Answer). is_verdict_good a.ruling) answers)

-- an answer, and whether its event had waited
pub record Judged : Type 0 where
  pub answer : Answer
  pub had_waited : Bool

-- the answers alone
abbrev pub answers_of : List Judged → List Answer
answers_of marked = map (λ (j : Judged). j.answer) marked

-- the events that were judged as they came, in order
abbrev pub judged_as_they_came : List Judged → List Event
judged_as_they_came marked = map (λ (j : Judged). j.answer.event) (filter (λ (j : Judged). not j.had_waited) marked)

-- the events that were judged after they had waited
abbrev pub judged_after_waiting : List Judged → List Event
judged_after_waiting marked = map (λ (j : Judged). j.answer.event) (filter (λ (j : Judged). j.had_waited) marked)

-- the events that waited, or were told to, are those that were judged after waiting and those that still wait
abbrev pub StillWait : List Event → List Judged → List Event → Type 0
StillWait waiting marked waits = IsPermutation (waiting ++ told_to_wait (answers_of marked)) (judged_after_waiting marked ++ waits)

-- The events answered Good, in order, stand behind the old history. Each received event was judged once as it came, in order, or is
-- still to come. Each that waited, or was told to, was judged once after that, or still waits; and none that had waited was told to
-- wait again. There are no other answers.
pub record AccountsForAll (history waiting events : List Event) (o : Outcome) : Type 0 where
  pub marked : List Judged
  pub answers : answers_of marked ≡ o.answers
  -- what is held is the old history and the events answered Good
  pub held : o.desk.held ≡ history ++ answered_good o.answers
  pub received : events ≡ judged_as_they_came marked ++ o.desk.coming
  pub left : StillWait waiting marked o.desk.waiting
  -- so it is after each front of the judgements too: whatever was judged after waiting had waited before
  pub waited : (k : ℕ) → (waits : List Event) × StillWait waiting (take k marked) waits
  pub once : AllByRecursion (λ (j : Judged). j.had_waited ≡ true → is_told_to_wait j.answer.ruling ≡ false) marked

-- Wherever receiving stops between two judgements, all events are accounted for.
abbrev pub JudgementsAccountForAll : Type 0
JudgementsAccountForAll = (limits : LimitNumbers) (held waiting events : List Event) (n : ℕ)
    → AccountsForAll held waiting events (judgements limits true n (desk_of held waiting events))

-- each of the events has one last answer, or waits, or is still to come
abbrev pub HasOneLastAnswer : List Event → Outcome → Type 0
HasOneLastAnswer events o = IsPermutation events (answered_at_last o.answers ++ (o.desk.waiting ++ o.desk.coming))

-- So it is with each event that waited and each that was received, wherever receiving stops.
abbrev pub EachHasOneLastAnswer : Type 0
EachHasOneLastAnswer = (limits : LimitNumbers) (held waiting events : List Event) (n : ℕ)
    → HasOneLastAnswer (waiting ++ events) (judgements limits true n (desk_of held waiting events))
