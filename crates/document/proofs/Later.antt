-- The frames of later events can be spelled.
use Rattle.std.proofs.Common.{ℕ, List, [], ◌∷◌, ◌++◌, drop}
use Rattle.std.specs.List.{AllByRecursion}
use Rattle.ew_model.specs.declared.event.Event.{Event}
use Rattle.ew_model.specs.Limits.{LimitNumbers, AreLimits}
use Rattle.ew_model.specs.Sound.{IsSound, AreSound}
use Rattle.ew_model.specs.Verdicts.{IsGood}
use Rattle.peer_definitions.specs.declared.frame.Frame.{Frame}
use Rattle.peer_definitions.specs.declared.frame.Frame.TheVariants.{Done}
use Rattle.peer_definitions.specs.Answering.{event_frames}
use Rattle.peer_definitions.specs.Spelling.{HasSpelling}
use Rattle.peer_frames.specs.Laws.{IsTaken}
use Rattle.peer_exchange.proofs.Lengths.{all_drop, few_after, sent_taken}

spelled_front : (limits : LimitNumbers) (frames behind : List Frame) → AllByRecursion (IsTaken limits) (frames ++ behind) → AllByRecursion HasSpelling frames
spelled_front limits [] behind h = tt
spelled_front limits (f ∷ frames) behind h = (h.0.spelled, spelled_front limits frames behind h.1)

-- the frames of the events of a good history from a number on
pub later_spelled : (limits : LimitNumbers) (history : List Event) (from : ℕ) → AreLimits limits → AreSound history → IsGood history → AllByRecursion HasSpelling (event_frames limits (drop from history))
unfolding IsGood
later_spelled limits history from are sound good =
    spelled_front limits (event_frames limits (drop from history)) (Done ∷ [])
    (sent_taken limits (drop from history) are (all_drop IsSound from history sound) (all_drop _ from history (few_after [] history good)))
