-- What is proved of judging and receiving.
use Rattle.std.specs.Prelude.{◌≡◌, true, List, None}
use Rattle.ew_model.specs.declared.event.Event.{Event}
use Rattle.ew_model.specs.Sets.{SameElements}
use Rattle.ew_model.specs.Ancestors.{version_events}
use Rattle.ew_model.specs.Limits.{LimitNumbers}
use Rattle.ew_model.specs.Verdicts.{parent_rows, range_rows, IsGood, first_bad}
use Rattle.ew_model.specs.Kept.{IsKept}
use Rattle.ew_model.specs.Arrival.{is_ready, next_judgement, arrive}

-- Whatever arrives, what is held stays good, no id comes to stand twice, and no list grows too long.
abbrev pub ArrivalsKeep : Type 0
ArrivalsKeep = (limits : LimitNumbers) (held waiting events : List Event) → IsKept limits held waiting
    → IsKept limits (arrive limits held waiting events).desk.held (arrive limits held waiting events).desk.waiting

-- The rows by the parents and by the index depend on the event and its ancestors alone.
abbrev pub AncestorsJudge : Type 0
AncestorsJudge = (xs ys : List Event) (e : Event) → IsGood xs → IsGood ys → is_ready xs e ≡ true → is_ready ys e ≡ true
    → SameElements (version_events xs e.parents) (version_events ys e.parents)
    → (parent_rows xs e ≡ parent_rows ys e) × (range_rows xs e ≡ range_rows ys e)

-- Receiving goes on until nothing is left to judge.
abbrev pub ArrivalsEnd : Type 0
ArrivalsEnd = (limits : LimitNumbers) (held waiting events : List Event) → next_judgement limits true (arrive limits held waiting events).desk ≡ None

-- A list of events is good exactly where none of them is bad.
abbrev pub GoodHasNoBad : Type 0
GoodHasNoBad = (events : List Event) → (IsGood events → first_bad events ≡ None) × (first_bad events ≡ None → IsGood events)
