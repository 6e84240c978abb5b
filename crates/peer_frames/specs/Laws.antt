-- What holds of frames and of their cutting.
use Rattle.std.specs.Prelude.{◌≡◌, ℕ, ◌≤◌, Bool, true, false, List, [], ◌++◌, length, flat_map, Option}
use Rattle.std.specs.List.{AllByRecursion}
use Rattle.ew_model.specs.Limits.{LimitNumbers}
use Rattle.ew_model.specs.Bytes.{AreBytes}
use Rattle.ew_model.specs.declared.event.Event.{Event}
use Rattle.peer_definitions.specs.declared.frame.Frame.{Frame}
use Rattle.peer_definitions.specs.Batches.{AreBatches}
use Rattle.peer_definitions.specs.Spelling.{kind_of, body_of, frame_bytes, HasSpelling, IsSoundFrame}
use Rattle.peer_definitions.specs.Cutting.{Front, Finds, AreFrames, most_body}
use Rattle.peer_definitions.specs.Cutting.Front.{Whole, Partial, BadKind, TooLong, BadBody}
use Rattle.peer_frames.specs.Calls.{Call, AreAnswers, fed, frames_in}

-- Where the spelling of a frame begins with that of a frame, the two are one.
abbrev pub NoFrameBeginsAnother : Type 0
NoFrameBeginsAnother = (f g : Frame) (more : List ℕ) → IsSoundFrame f → HasSpelling f → IsSoundFrame g → HasSpelling g
    → frame_bytes f ++ more ≡ frame_bytes g → (f ≡ g) × (more ≡ [])

-- Something stands at the front of all bytes.
abbrev pub FrontsAreFound : Type 0
FrontsAreFound = (limits : LimitNumbers) (bytes : List ℕ) → AreBytes bytes → (front : Front) × Finds limits bytes front

-- No two things stand there.
abbrev pub FrontsAreOne : Type 0
FrontsAreOne = (limits : LimitNumbers) (bytes : List ℕ) (front other : Front) → Finds limits bytes front → Finds limits bytes other → front ≡ other

-- bytes that no further bytes make a frame of
abbrev pub is_fault : Front → Bool
is_fault (Whole f rest) = false
is_fault Partial = false
is_fault (BadKind kind) = true
is_fault (TooLong length) = true
is_fault BadBody = true

-- A fault stays, whatever comes behind it.
abbrev pub FaultsStay : Type 0
FaultsStay = (limits : LimitNumbers) (bytes more : List ℕ) (front : Front) → is_fault front ≡ true
    → Finds limits bytes front → Finds limits (bytes ++ more) front

-- Bytes are cut in one way only.
abbrev pub CutsAreOne : Type 0
CutsAreOne = (limits : LimitNumbers) (bytes : List ℕ) (frames others : List Frame) (end other : Front)
    → AreFrames limits bytes frames end → AreFrames limits bytes others other → (frames ≡ others) × (end ≡ other)

-- All bytes are cut.
abbrev pub CutsAreFound : Type 0
CutsAreFound = (limits : LimitNumbers) (bytes : List ℕ) → AreBytes bytes → (frames : List Frame) × (end : Front) × AreFrames limits bytes frames end

-- In whatever pieces bytes are given to a reader, and whenever it is asked: the frames that it answered and those of what it
-- keeps are the frames of all bytes given, and a fault that it answered is what they end with.
abbrev pub ChunkingIsNotSeen : Type 0
ChunkingIsNotSeen = (limits : LimitNumbers) (calls : List Call) (answers : List Front) (kept : List ℕ) (frames : List Frame) (end : Front)
    → AreAnswers limits [] calls answers kept → AreFrames limits kept frames end
    → AreFrames limits (fed calls) (frames_in answers ++ frames) end × AllByRecursion (λ front. is_fault front ≡ true → front ≡ end) answers

-- Two readers that were given the same bytes, in whatever pieces, and keep no whole frame, answered the same frames and are
-- at the same end.
abbrev pub ChunkingsAgree : Type 0
ChunkingsAgree = (limits : LimitNumbers) (calls others : List Call) (answers replies : List Front) (kept left : List ℕ) (end other : Front)
    → AreAnswers limits [] calls answers kept → AreFrames limits kept [] end
    → AreAnswers limits [] others replies left → AreFrames limits left [] other
    → fed calls ≡ fed others → (frames_in answers ≡ frames_in replies) × (end ≡ other)

-- the frame has a spelling that a reader with these limits takes
pub record IsTaken (limits : LimitNumbers) (f : Frame) : Type 0 where
  pub sound : IsSoundFrame f
  pub spelled : HasSpelling f
  pub short : length (body_of f) ≤ most_body limits (kind_of f)

-- The bytes of frames are cut into these frames, and nothing is left.
abbrev pub FramesComeBack : Type 0
FramesComeBack = (limits : LimitNumbers) (frames : List Frame) → AllByRecursion (IsTaken limits) frames
    → AreFrames limits (flat_map frame_bytes frames) frames Partial

-- Bytes hold one list of batches, and one bad place or none.
abbrev pub BatchesAreOne : Type 0
BatchesAreOne = (most : ℕ) (bytes : List ℕ) (batches others : List (List Event)) (bad other : Option ℕ)
    → AreBatches most bytes batches bad → AreBatches most bytes others other → (batches ≡ others) × (bad ≡ other)
