-- What a replay tells.
use Rattle.std.specs.Prelude.{◌≡◌, ◌<◌, ◌^◌, List, [], length}
use Rattle.std.specs.List.{AllByRecursion}
use Rattle.ew_model.specs.declared.event.Event.{Event}
use Rattle.ew_model.specs.declared.text_op.TextOp.{TextOp}
use Rattle.ew_model.specs.declared.text_op.TextOp.TheVariants.{Ins, Del, Nothing}
use Rattle.ew_model.specs.Operations.{operations, changed_by_all}
use Rattle.ew_model.specs.Texts.{text_of}
use Rattle.ew_model.specs.Verdicts.{IsGood}
use Rattle.history_definitions.specs.Replays.{change_lines, replay_text}

-- an index of 32 bits
abbrev pub HasSmallIndex : TextOp → Type 0
HasSmallIndex (Ins at ch) = at < 2 ^ 32
HasSmallIndex (Del at) = at < 2 ^ 32
HasSmallIndex Nothing = Unit {0}

-- the replay is read in one way, as the operations of the history, and these make its text of the empty one
pub record IsReadBack (history : List Event) : Type 0 where
  pub small : AllByRecursion HasSmallIndex (operations history)
  pub once : (ops : List TextOp) → AllByRecursion HasSmallIndex ops → change_lines ops ≡ replay_text history → ops ≡ operations history
  pub made : changed_by_all (operations history) [] ≡ text_of history

-- Who reads a replay, and does to the empty text what its lines say, one after another, comes to the text.
abbrev pub ReplaysMakeText : Type 0
ReplaysMakeText = (history : List Event) → IsGood history → length history < 2 ^ 32 → IsReadBack history
