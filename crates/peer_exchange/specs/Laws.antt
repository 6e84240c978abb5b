-- What holds of questions and answers.
use Rattle.std.specs.Prelude.{◌≡◌, ◌<◌, ◌≤◌, ℕ, not, List, [], ◌∷◌, ◌++◌, length, filter, flat_map}
use Rattle.std.specs.List.{list_any}
use Rattle.ew_model.specs.declared.event.Event.{Event}
use Rattle.ew_model.specs.ArrivalLaw.{OneEach}
use Rattle.ew_model.specs.Events.{event_eq}
use Rattle.ew_model.specs.Limits.{LimitNumbers, AreLimits}
use Rattle.ew_model.specs.Verdicts.{IsGood}
use Rattle.history_definitions.specs.Missing.{missing}
use Rattle.history_definitions.specs.Summary.{summary_of}
use Rattle.peer_definitions.specs.Pieces.{frame_room, pieces}

-- the events of a history that the other one doesn't hold, in order
abbrev pub unheld : List Event → List Event → List Event
unheld history other = filter (λ (e : Event). not (list_any (event_eq e) other)) history

-- What a good history lacks by its summary is what it doesn't hold, where there is one event for each id.
abbrev pub MissingAreUnheld : Type 0
MissingAreUnheld = (history other : List Event) → IsGood other → OneEach (history ++ other) → missing history (summary_of other) ≡ unheld history other

-- each piece but the last has n elements, and the last has some, and no more than n
abbrev pub AreFull : {X : Type 0} → ℕ → List (List X) → Type 0
AreFull n [] = Unit {0}
AreFull n (last ∷ []) = (0 < length last) × (length last ≤ n)
AreFull n (piece ∷ next ∷ pieces) = (length piece ≡ n) × AreFull n (next ∷ pieces)

-- the pieces of a list are full, and joined they are the list
pub record ArePieces {X : Type 0} (n : ℕ) (xs : List X) (pieces : List (List X)) : Type 0 where
  pub full : AreFull n pieces
  pub whole : flat_map (λ piece. piece) pieces ≡ xs

-- The events of a reply are cut into full frames, and they are all there, in order.
abbrev pub FramesAreFull : Type 0
FramesAreFull = (limits : LimitNumbers) (events : List Event) → AreLimits limits → ArePieces (frame_room limits) events (pieces (frame_room limits) events)
