-- How the touches of a walk add up.
use Rattle.std.specs.Prelude.{◌≡◌, ℕ, ◌+◌, ◌≤◌, true, false, List, [], ◌∷◌, ◌++◌, length, take, drop}
use Rattle.std.specs.List.{AllByRecursion}
use Rattle.ew_model.specs.declared.id.Id.{Id}
use Rattle.ew_model.specs.declared.event.Event.{Event}
use Rattle.ew_model.specs.Ancestors.{ids_of, ancestors}
use Rattle.ew_model.specs.Limits.{LimitNumbers}
use Rattle.ew_model.specs.Arrival.{Answer, arrive}
use Rattle.ew_model.specs.Verdicts.{IsGood}
use Rattle.ew_model.specs.Cuts.{are_among, latest_cut}
use Rattle.ew_model.specs.Touches.{touches, touches_after}
use Rattle.ew_model.specs.Rounds.{is_out_of_range, most_touches}

-- the ids that are prepared after the events, from a history and those prepared before
abbrev pub prepared_after : List Event → List Id → List Event → List Id
prepared_after history prepared [] = prepared
prepared_after history prepared (e ∷ events) = prepared_after (history ++ e ∷ []) (ancestors (history ++ e ∷ []) (e.id ∷ [])) events

-- the ids that are prepared at the end of a walk from the cut k on
abbrev pub prepared_from : List Event → ℕ → List Id
prepared_from history k = prepared_after (take k history) (ids_of (take k history)) (drop k history)

-- each of the events has all events before it among its ancestors
abbrev pub EachKnowsAll : List Event → List Event → Type 0
EachKnowsAll before [] = Unit {0}
EachKnowsAll before (e ∷ events) = (are_among (ancestors before e.parents) (ids_of before) ≡ true) × EachKnowsAll (before ++ e ∷ []) events

pub record TouchesAdd : Type 0 where
  -- the touches of a longer history are those of its front, and those of a walk that goes on from there
  pub append : (history later : List Event) (k : ℕ) → k ≤ length history → touches (history ++ later) k ≡ touches history k + touches_after history (prepared_from history k) later
  -- so they never fall
  pub grow : (history later : List Event) (k : ℕ) → touches history k ≤ touches (history ++ later) k
  -- each event is touched
  pub each : (history : List Event) (k : ℕ) → length (drop k history) ≤ touches history k
  -- and once alone, where each knows all before it
  pub once : (history : List Event) (k : ℕ) → IsGood history → EachKnowsAll (take k history) (drop k history) → touches history k ≡ length (drop k history)

-- no answer says that an index is out of range
abbrev pub NoneOutOfRange : List Answer → Type 0
NoneOutOfRange answers = AllByRecursion (λ a. is_out_of_range a.ruling ≡ false) answers

-- Where no index is out of range, the bound on a list of received events is what a walk over the history so reached needs,
-- from its latest cut within the old length.
abbrev pub OneRound : Type 0
OneRound = (limits : LimitNumbers) (held waiting events : List Event) → NoneOutOfRange (arrive limits held waiting events).answers
    → most_touches limits held waiting events
    ≡ touches (arrive limits held waiting events).desk.held (latest_cut (arrive limits held waiting events).desk.held (length held))
