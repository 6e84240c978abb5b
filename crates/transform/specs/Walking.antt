-- What a walk answers.
use Rattle.std.specs.Prelude.{ℕ, suc, ◌-◌, List, take, length, nat_eq, if◌then◌else◌, Option, Some, None}
use Rattle.ew_model.specs.declared.event.Event.{Event}
use Rattle.ew_model.specs.Verdicts.{BadEvent}
use Rattle.ew_model.specs.Verdicts.Ruling.{OutOfRange}
use Rattle.ew_model.specs.Cuts.{latest_cut}
use Rattle.ew_model.specs.Walks.{base_at, walked_from}
use Rattle.advance_retreat.specs.Kept.{Kept}
use Rattle.advance_retreat.specs.Standing.{StandsFor}

-- an event that is out of range, by its position and the length of the text at its parents
abbrev pub bad_at : ℕ × ℕ → BadEvent
bad_at stop = record { position = stop.0; verdict = OutOfRange stop.1 }

-- the events before the stop, or all
abbrev pub walked_of : List Event → Option (ℕ × ℕ) → List Event
walked_of history None = history
walked_of history (Some stop) = take stop.0 history

-- and with the one that it stopped at
abbrev pub judged_of : List Event → Option (ℕ × ℕ) → List Event
judged_of history None = history
judged_of history (Some stop) = take (suc stop.0) history

-- the latest critical cut up to the last event that a walk judged; the cut that it began at, where it judged none
abbrev pub cut_left : List Event → ℕ → Option (ℕ × ℕ) → ℕ
cut_left history from None = if nat_eq from (length history) then from else latest_cut history (length history - 1)
cut_left history from (Some stop) = latest_cut history stop.0

-- the state stands for the text below the cut as a base, and for those of the walked events that are behind the cut
pub record StandsBehind (history : List Event) (cut : ℕ) (walked : List Event) (state : Kept) : Type 0 where
  pub prepared : List ℕ
  pub stands : StandsFor state (base_at history cut) (walked_from walked cut) prepared
