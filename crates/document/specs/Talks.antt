-- What comes of bytes that a peer sent.
use Rattle.std.specs.Prelude.{◌≡◌, ◌⊎◌, ⊤, ℕ, List, [], ◌∷◌, ◌++◌, flat_map, length, take, None, Some, Result, Ok, Err}
use Rattle.ew_model.specs.Kept.{ReplicaState}
use Rattle.ew_model.specs.Limits.{LimitNumbers}
use Rattle.peer_definitions.specs.declared.end.End.{End}
use Rattle.peer_definitions.specs.declared.frame.Frame.{Frame}
use Rattle.peer_definitions.specs.Answering.{answer_to}
use Rattle.peer_definitions.specs.Cutting.{Finds}
use Rattle.peer_definitions.specs.Cutting.Front.{Whole, Partial, BadKind, TooLong, BadBody}
use Rattle.peer_definitions.specs.Spelling.{frame_bytes}
use Rattle.peer_exchange.specs.Replies.{IsLeftBy}
use Rattle.peer_frames.specs.declared.fault.FrameFault.{FrameFault}
use Rattle.peer_frames.specs.declared.fault.FrameFault.TheVariants as fault
use Rattle.document.specs.declared.fault.TalkingFault.{TalkingFault}
use Rattle.document.specs.declared.fault.TalkingFault.TheVariants as talking

-- the spellings of frames, one after the other
abbrev pub spelled : List Frame → List ℕ
spelled frames = flat_map frame_bytes frames

-- The bytes begin with these whole frames. Each was answered in turn, and none ended the session: the replica is this then, these bytes
-- are left, and these are to be sent.
abbrev pub AreAnswered : LimitNumbers → List Frame → ReplicaState → ReplicaState → List ℕ → List ℕ → List ℕ → Type 0
AreAnswered limits [] start now bytes rest sent = (now ≡ start) × (rest ≡ bytes) × (sent ≡ [])
AreAnswered limits (f ∷ frames) start now bytes rest sent =
    (behind : List ℕ) × Finds limits bytes (Whole f behind) × ((answer_to start f).end ≡ None)
    × (later : List ℕ) × AreAnswered limits frames (answer_to start f).state now behind rest later × (sent ≡ spelled (answer_to start f).frames ++ later)

-- Frames in front of the bytes were answered by a replica, and none of them ended the session. These bytes are left, and these are to
-- be sent.
pub record Spoken (limits : LimitNumbers) (start now : ReplicaState) (bytes rest sent : List ℕ) : Type 0 where
  pub frames : List Frame
  pub answered : AreAnswered limits frames start now bytes rest sent

-- Frames in front of the bytes were answered, and the next one ended the session: it was answered too, and no more of the bytes was
-- taken.
pub record Ended (limits : LimitNumbers) (start now : ReplicaState) (bytes rest sent : List ℕ) (end : End) : Type 0 where
  pub before : ReplicaState
  pub between : List ℕ
  pub said : List ℕ
  pub spoken : Spoken limits start before bytes between said
  pub frame : Frame
  pub found : Finds limits between (Whole frame rest)
  pub ends : (answer_to before frame).end ≡ Some end
  pub state : now ≡ (answer_to before frame).state
  pub told : sent ≡ said ++ spelled (answer_to before frame).frames

-- Memory was wanting while a frame was answered. It left all as it was, or some of its events were received, and nothing more is to be
-- sent. Or it was received whole, and so many frames of its answer are to be sent behind what was.
abbrev pub IsCutShort : Frame → ReplicaState → ReplicaState → List ℕ → List ℕ → Type 0
IsCutShort f old new before sent =
    (IsLeftBy f old new × (sent ≡ before))
    ⊎ ((new ≡ (answer_to old f).state) × ((k : ℕ) × (sent ≡ before ++ spelled (take k (answer_to old f).frames))))

-- frames in front of the bytes were answered, and memory was wanting for the next one, which was taken off
pub record WithoutMemory (limits : LimitNumbers) (start now : ReplicaState) (bytes rest sent : List ℕ) : Type 0 where
  pub before : ReplicaState
  pub between : List ℕ
  pub said : List ℕ
  pub spoken : Spoken limits start before bytes between said
  pub frame : Frame
  pub found : Finds limits between (Whole frame rest)
  pub left : IsCutShort frame before now said sent

-- A frame was answered, and the answer's bytes put behind others; it ends the session, or doesn't; or memory was wanting for it.
abbrev pub IsAnswered : Frame → ReplicaState → ReplicaState → List ℕ → List ℕ → Result (Unit {0}) TalkingFault → Type 0
IsAnswered f old new before sent (Ok done) = (new ≡ (answer_to old f).state) × ((answer_to old f).end ≡ None) × (sent ≡ before ++ spelled (answer_to old f).frames)
IsAnswered f old new before sent (Err (talking.Ended end)) = (new ≡ (answer_to old f).state) × ((answer_to old f).end ≡ Some end) × (sent ≡ before ++ spelled (answer_to old f).frames)
IsAnswered f old new before sent (Err talking.OutOfMemory) = IsCutShort f old new before sent
IsAnswered f old new before sent (Err (talking.Frame why)) = ⊥

-- the bytes begin with no frame for this reason; want of memory says nothing
abbrev pub FaultFound : LimitNumbers → List ℕ → FrameFault → Type 0
FaultFound limits rest (fault.BadKind kind) = Finds limits rest (BadKind kind)
FaultFound limits rest (fault.TooLong len) = Finds limits rest (TooLong len)
FaultFound limits rest fault.BadBody = Finds limits rest BadBody
FaultFound limits rest fault.OutOfMemory = ⊤

-- All whole frames in front of the bytes were answered, up to one that ends the session. These bytes are left, and these are to be
-- sent.
abbrev pub Answers : LimitNumbers → ReplicaState → ReplicaState → List ℕ → List ℕ → List ℕ → Result (Unit {0}) TalkingFault → Type 0
Answers limits start now bytes rest sent (Ok done) = Spoken limits start now bytes rest sent × Finds limits rest Partial
Answers limits start now bytes rest sent (Err (talking.Frame why)) = Spoken limits start now bytes rest sent × FaultFound limits rest why
Answers limits start now bytes rest sent (Err (talking.Ended end)) = Ended limits start now bytes rest sent end
Answers limits start now bytes rest sent (Err talking.OutOfMemory) = WithoutMemory limits start now bytes rest sent

-- The bytes were put behind those that are kept of a peer, and what is whole then was answered. Or memory was wanting for them: what is
-- kept stays, the replica too, and nothing is to be sent.
abbrev pub Receives : LimitNumbers → ReplicaState → ReplicaState → List ℕ → List ℕ → List ℕ → List ℕ → Result ℕ TalkingFault → Type 0
Receives limits start now kept bytes rest sent (Ok n) = Spoken limits start now (kept ++ bytes) rest sent × Finds limits rest Partial × (n ≡ length sent)
Receives limits start now kept bytes rest sent (Err (talking.Frame why)) = Spoken limits start now (kept ++ bytes) rest sent × FaultFound limits rest why
Receives limits start now kept bytes rest sent (Err (talking.Ended end)) = Ended limits start now (kept ++ bytes) rest sent end
Receives limits start now kept bytes rest sent (Err talking.OutOfMemory) =
    ((now ≡ start) × (rest ≡ kept) × (sent ≡ [])) ⊎ WithoutMemory limits start now (kept ++ bytes) rest sent
