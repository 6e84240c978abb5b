-- Where a walk stands between two events.
use Rattle.std.specs.Prelude.{◌≡◌, ℕ, ◌+◌, ◌-◌, ◌<◌, ◌≤◌, true, List, [], ◌∷◌, ◌++◌, length, take, drop, slice_get, Option, Some, None}
use Rattle.ew_model.specs.declared.id.Id.{Id}
use Rattle.ew_model.specs.declared.event.Event.{Event}
use Rattle.ew_model.specs.Ids.{is_among}
use Rattle.ew_model.specs.Ancestors.{ancestors, is_held}
use Rattle.ew_model.specs.Cuts.{is_critical, latest_cut}
use Rattle.ew_model.specs.Verdicts.{IsGood, graph_verdict, next_verdict}
use Rattle.ew_model.specs.Verdicts.Ruling.{Good, OutOfRange}
use Rattle.ew_model.specs.Sound.{AreSound}
use Rattle.ew_model.specs.Operations.{operations}
use Rattle.ew_model.specs.TouchLaws.{prepared_from}
use Rattle.ew_model.specs.Walks.{base_at, positions_among, walked_from}
use Rattle.event_graph.specs.Keeping.{IsAdmitted}
use Rattle.advance_retreat.specs.Kept.{Kept}
use Rattle.advance_retreat.specs.Standing.{StandsFor}
use Rattle.transform.specs.declared.apply.Turn.{Turn}
use Rattle.transform.specs.declared.apply.Turn.TheVariants.{Applied, OutOfRange as Stops}

-- the positions from a cut on that are prepared once these events were walked: the last one and its ancestors
abbrev pub prepared_since : List Event → ℕ → List ℕ
prepared_since front cut = positions_among (prepared_from front 0) cut (drop cut front)

-- the positions from a cut on of what the event behind these was made over
abbrev pub over_since : List Event → ℕ → Event → List ℕ
over_since front cut e = positions_among (ancestors front e.parents) cut (drop cut front)

-- the events before the place n are good, and this critical cut isn't behind the place
pub record IsBehind (history : List Event) (cut n : ℕ) : Type 0 where
  pub low : cut ≤ n
  pub critical : is_critical history cut ≡ true
  pub good : IsGood (take n history)

-- the state stands for the text below the cut, and the events from there up to the place n, with these prepared
abbrev pub StandsAt : List Event → ℕ → ℕ → List ℕ → Kept → Type 0
StandsAt history cut n prepared state = StandsFor state (base_at history cut) (walked_from (take n history) cut) prepared

-- the events from a critical cut on up to the place n were walked
pub record Reached (history : List Event) (cut n : ℕ) (state : Kept) : Type 0 where
  pub some : cut < n
  pub behind : IsBehind history cut n
  pub stands : StandsAt history cut n (prepared_since (take n history) cut) state

-- the events from a critical cut on up to the place n were walked; there may be none
pub record GoesFrom (history : List Event) (cut n : ℕ) (state : Kept) : Type 0 where
  pub behind : IsBehind history cut n
  pub stands : StandsAt history cut n (prepared_since (take n history) cut) state

-- The place n is a critical cut, before which the text has so many characters. A walk from a place on has all events before n
-- prepared there. The state is kept where the walk begins; no walk ends behind an event that was walked without it.
pub record InLine (history : List Event) (from n len : ℕ) (state : Kept) : Type 0 where
  pub behind : IsBehind history n n
  pub long : len ≡ base_at history n
  pub prepared : (x : Id) → is_among (prepared_from (take n history) from) x ≡ is_held (take n history) x
  pub begins : n ≡ from → StandsFor state (base_at history n) [] []
  pub goes_on : from < n → n < length history

-- A walk from a place on came to the place n: with the length of the text, where no state is kept, or else with the state that
-- stands for the events since the latest cut.
abbrev pub WalkedTo : List Event → ℕ → ℕ → Option ℕ → Kept → Type 0
WalkedTo history from n (Some len) state = InLine history from n len state
WalkedTo history from n None state = (from < n) × Reached history (latest_cut history (n - 1)) n state

-- the event at the place n may be applied: what it was made over is prepared
pub record IsReadyAt (history : List Event) (cut n : ℕ) (state : Kept) : Type 0 where
  pub behind : IsBehind history cut n
  pub stands : (e : Event) → slice_get history n ≡ Some e → StandsAt history cut n (over_since (take n history) cut e) state

-- the same, or the place is a critical cut, before which the text has so many characters
abbrev pub ReadyAt : List Event → ℕ → Option ℕ → Kept → Type 0
ReadyAt history n (Some len) state = IsBehind history n n × (len ≡ base_at history n)
ReadyAt history n None state = IsReadyAt history (latest_cut history n) n state

-- The event behind these may be applied: they are good, it is judged good by them whatever its index, and the state stands
-- for those from a critical cut on, with what the event was made over prepared.
pub record IsReady (front : List Event) (cut : ℕ) (e : Event) (state : Kept) : Type 0 where
  pub low : cut ≤ length front
  pub critical : is_critical (front ++ e ∷ []) cut ≡ true
  pub good : IsGood front
  pub whole : IsAdmitted (front ++ e ∷ [])
  pub sound : AreSound (front ++ e ∷ [])
  pub admitted : graph_verdict front e ≡ Good
  pub stands : StandsFor state (base_at front cut) (walked_from front cut) (over_since front cut e)

-- What a turn answers of the event behind these: it is good, is walked too, and does this to the text; or it is out of range, and
-- the state still stands for the events before it.
abbrev pub Turned : List Event → ℕ → Event → Kept → Turn → Type 0
Turned front cut e state (Applied op) =
    IsGood (front ++ e ∷ [])
    × StandsFor state (base_at front cut) (walked_from (front ++ e ∷ []) cut) (prepared_since (front ++ e ∷ []) cut)
    × (operations (front ++ e ∷ []) ≡ operations front ++ op ∷ [])
Turned front cut e state (Stops len) = (next_verdict front e ≡ OutOfRange len) × ((prepared : List ℕ) × StandsFor state (base_at front cut) (walked_from front cut) prepared)

-- The same of the event at the place n of a history, where the events from the cut on up to there were applied.
abbrev pub TurnedAt : List Event → ℕ → ℕ → Kept → Turn → Type 0
TurnedAt history cut n state (Applied op) = Reached history cut (n + 1) state × (operations (take (n + 1) history) ≡ operations (take n history) ++ op ∷ [])
TurnedAt history cut n state (Stops len) =
    ((e : Event) → slice_get history n ≡ Some e → next_verdict (take n history) e ≡ OutOfRange len)
    × ((prepared : List ℕ) × StandsFor state (base_at history cut) (walked_from (take n history) cut) prepared)
