-- What a user of a reader does, and is answered.
use Rattle.std.specs.Prelude.{◌≡◌, ℕ, Bool, List, [], ◌∷◌, ◌++◌}
use Rattle.ew_model.specs.Limits.{LimitNumbers}
use Rattle.peer_definitions.specs.declared.frame.Frame.{Frame}
use Rattle.peer_definitions.specs.Cutting.{Front, Finds}
use Rattle.peer_definitions.specs.Cutting.Front.{Whole}

-- a reader's limits, the bytes that came since the last frame, and whether their body was answered to be none
pub record Kept : Type 0 where
  pub limits : LimitNumbers
  pub bytes : List ℕ
  pub refused : Bool

-- a piece of bytes is given to the reader, or it is asked for the next frame
pub data Call : Type 0 where
  Feed : (piece : List ℕ) → Call
  Next : Call

-- a frame that is answered is taken off the bytes
abbrev pub left_by : List ℕ → Front → List ℕ
left_by bytes (Whole f rest) = rest
left_by bytes front = bytes

-- What is answered to the questions of a list of calls, and which bytes are kept behind them. Calls for which memory ran out
-- change nothing, and aren't listed.
abbrev pub AreAnswers : LimitNumbers → List ℕ → List Call → List Front → List ℕ → Type 0
AreAnswers limits bytes [] answers kept = (answers ≡ []) × (kept ≡ bytes)
AreAnswers limits bytes (Feed piece ∷ calls) answers kept = AreAnswers limits (bytes ++ piece) calls answers kept
AreAnswers limits bytes (Next ∷ calls) [] kept = ⊥
AreAnswers limits bytes (Next ∷ calls) (front ∷ answers) kept = Finds limits bytes front × AreAnswers limits (left_by bytes front) calls answers kept

-- all bytes that are given, in order
abbrev pub fed : List Call → List ℕ
fed [] = []
fed (Feed piece ∷ calls) = piece ++ fed calls
fed (Next ∷ calls) = fed calls

-- the frames among the answers
abbrev pub frames_in : List Front → List Frame
frames_in [] = []
frames_in (Whole f rest ∷ answers) = f ∷ frames_in answers
frames_in (front ∷ answers) = frames_in answers
