-- What is known of a session while its frames are answered.
use Rattle.std.specs.Prelude.{◌≡◌, ◌≤◌, ◌<◌, ◌⊎◌, ⊤, ℕ, ◌+◌, suc, List, [], ◌∷◌, ◌++◌, length, take, Option, None, Some, Result, Ok, Err}
use Rattle.std.specs.Io.KnownBytes.{Appends, Consumes, IsAtEnd, Keeps}
use Rattle.ew_model.specs.Bytes.{AreBytes}
use Rattle.ew_model.specs.Kept.{ReplicaState}
use Rattle.ew_model.specs.Limits.{LimitNumbers}
use Rattle.ew_outside.specs.Bytes.{IsEnd, IsFlushed}
use Rattle.ew_outside.specs.Counts.{Rose}
use Rattle.peer_frames.specs.declared.fault.FrameFault.{FrameFault}
use Rattle.peer_frames.specs.declared.fault.FrameFault.TheVariants as fault
use Rattle.peer_definitions.specs.declared.frame.Frame.{Frame}
use Rattle.peer_definitions.specs.Cutting.{Finds}
use Rattle.peer_definitions.specs.Cutting.Front.{Partial, BadKind, TooLong, BadBody}
use Rattle.peer_definitions.specs.Answering.{Answered}
use Rattle.peer_definitions.specs.declared.end.End.{End}
use Rattle.peer_definitions.specs.declared.end.End.TheVariants as end
use Rattle.ew_outside.specs.Outputs.{GrowsByFront}
use Rattle.command_table.specs.Table.{Text}
use Rattle.command_table.specs.Framings.{BeginWith}
use Rattle.command_table.specs.Sessions.{Exchange, exchanged, bytes_of}
use Rattle.opened_files.specs.declared.reply.Reply as code
use Rattle.ew_outside.specs.declared.fault.Fault.TheVariants as fault_is
use Rattle.opened_files.specs.Views.{reply_view}
use Rattle.ew_outside.specs.declared.fault.Fault.{Fault}
use Rattle.serve_plans.specs.Plans.{ClosesAs}
use Rattle.serve_plans.specs.declared.closing.Closing.{Closing}
use Rattle.serve_plans.specs.declared.closing.Closing.TheVariants as closing

-- what is sent while frames are answered: a Bye waits for the store
abbrev pub sent_by : Exchange → Option End → List ℕ
sent_by t None = t.sent
sent_by t (Some end.Bye) = t.sent
sent_by t (Some (end.Clash x)) = t.sent ++ t.last

-- what is sent of the answer to one frame
abbrev pub sent_of : Answered → Option End → List ℕ
sent_of a None = bytes_of a.frames
sent_of a (Some end.Bye) = []
sent_of a (Some (end.Clash x)) = bytes_of a.frames

-- the answer to one frame was sent and flushed, and the session goes on or ends by it
abbrev pub Replies : Answered → ReplicaState → Option (List ℕ) → Option (List ℕ) → Option ℕ → Option ℕ → Result (Option Closing) Fault → Type 0
Replies a now out out' flushed flushed' (Ok None) = (a.end ≡ None) × (a.state ≡ now) × Appends out out' (bytes_of a.frames) × IsFlushed out' flushed'
Replies a now out out' flushed flushed' (Ok (Some (closing.Bye bytes))) =
    (a.end ≡ Some end.Bye) × (a.state ≡ now) × (bytes.items ≡ bytes_of a.frames) × (out' ≡ out) × (flushed' ≡ flushed)
Replies a now out out' flushed flushed' (Ok (Some (closing.Clash x))) = (a.end ≡ Some (end.Clash x)) × Appends out out' (bytes_of a.frames) × IsFlushed out' flushed'
Replies a now out out' flushed flushed' (Ok (Some c)) = ⊥
Replies a now out out' flushed flushed' (Err halt) = GrowsByFront out out' (sent_of a a.end)

-- there was nothing to send, and all is as before; or all that was sent is flushed
abbrev pub StaysOrFlushed : List ℕ → Option (List ℕ) → Option (List ℕ) → Option ℕ → Option ℕ → Type 0
StaysOrFlushed sent out out' flushed flushed' = ((sent ≡ []) × (out' ≡ out) × (flushed' ≡ flushed)) ⊎ IsFlushed out' flushed'

-- Frames in front of the bytes were answered, and none of them ended the session.
pub record Spoken (limits : LimitNumbers) (start now : ReplicaState) (bytes rest : List ℕ) (out out' : Option (List ℕ)) (flushed flushed' : Option ℕ)
    (before after : ℕ) : Type 0 where
  pub frames : List Frame
  pub begins : BeginWith limits bytes frames rest
  pub unended : (exchanged start frames).end ≡ None
  pub state : (exchanged start frames).state ≡ now
  pub sent : Appends out out' (exchanged start frames).sent
  pub flush : StaysOrFlushed (exchanged start frames).sent out out' flushed flushed'
  pub number : after ≡ before + length frames

-- the bytes begin with no frame for this reason; want of memory says nothing
abbrev pub FaultFound : LimitNumbers → List ℕ → FrameFault → Type 0
FaultFound limits rest (fault.BadKind kind) = Finds limits rest (BadKind kind)
FaultFound limits rest (fault.TooLong len) = Finds limits rest (TooLong len)
FaultFound limits rest fault.BadBody = Finds limits rest BadBody
FaultFound limits rest fault.OutOfMemory = ⊤

-- Why no frame is answered behind so many, by which so much was exchanged; and what was sent by then.
abbrev pub Closes : LimitNumbers → Exchange → ℕ → ReplicaState → List ℕ → Option (List ℕ) → Option (List ℕ) → Closing → Type 0
Closes limits t count now rest out out' (closing.Bye bytes) = (t.end ≡ Some end.Bye) × (t.state ≡ now) × (bytes.items ≡ t.last) × Appends out out' t.sent
Closes limits t count now rest out out' (closing.Clash x) = (t.end ≡ Some (end.Clash x)) × Appends out out' (t.sent ++ t.last)
Closes limits t count now rest out out' (closing.BadFrame number why) = (t.end ≡ None) × Appends out out' t.sent × (number ≡ suc count) × FaultFound limits rest why
Closes limits t count now rest out out' (closing.CutFrame number) = (t.end ≡ None) × Appends out out' t.sent × (number ≡ suc count) × Finds limits rest Partial
    × (rest ≡ [] → ⊥)
Closes limits t count now rest out out' closing.End = (t.end ≡ None) × Appends out out' t.sent × (t.state ≡ now) × Finds limits rest Partial × (rest ≡ [])
Closes limits t count now rest out out' closing.TooLong = (t.end ≡ None) × Appends out out' t.sent × Finds limits rest Partial

-- frames in front of the bytes were answered, and the session is closed
pub record Closed (limits : LimitNumbers) (start now : ReplicaState) (bytes : List ℕ) (out out' : Option (List ℕ)) (flushed flushed' : Option ℕ) (before : ℕ)
    (c : Closing) : Type 0 where
  pub frames : List Frame
  pub rest : List ℕ
  pub begins : BeginWith limits bytes frames rest
  pub closes : Closes limits (exchanged start frames) (before + length frames) now rest out out' c
  pub flush : StaysOrFlushed (sent_by (exchanged start frames) (exchanged start frames).end) out out' flushed flushed'

-- a front was sent of what is sent to frames in front of the bytes
pub record Broken (limits : LimitNumbers) (start : ReplicaState) (bytes : List ℕ) (out out' : Option (List ℕ)) : Type 0 where
  pub frames : List Frame
  pub rest : List ℕ
  pub begins : BeginWith limits bytes frames rest
  pub breaks : GrowsByFront out out' (sent_by (exchanged start frames) (exchanged start frames).end)

-- a frame closes the session, or bytes that are none
abbrev pub IsByFrame : Closing → Type 0
IsByFrame (closing.Bye bytes) = ⊤
IsByFrame (closing.Clash x) = ⊤
IsByFrame (closing.BadFrame number why) = ⊤
IsByFrame c = ⊥

-- all whole frames in front of the bytes were answered, up to one that closes the session
abbrev pub AnswersAll : LimitNumbers → ReplicaState → ReplicaState → List ℕ → List ℕ → Option (List ℕ) → Option (List ℕ) → Option ℕ → Option ℕ → ℕ → ℕ
    → Result (Option Closing) Fault → Type 0
AnswersAll limits start now bytes rest out out' flushed flushed' before number (Ok None) =
    Spoken limits start now bytes rest out out' flushed flushed' before number × Finds limits rest Partial
AnswersAll limits start now bytes rest out out' flushed flushed' before number (Ok (Some c)) = Closed limits start now bytes out out' flushed flushed' before c
    × IsByFrame c
AnswersAll limits start now bytes rest out out' flushed flushed' before number (Err halt) = Broken limits start bytes out out'

-- nothing is left of an input that was told
abbrev pub IsSpent : Option (List ℕ) → Option (List ℕ) → Type 0
IsSpent None left' = ⊤
IsSpent (Some input) left' = IsAtEnd left'

-- what was read at last
abbrev pub ReadsTo : LimitNumbers → List ℕ → Option (List ℕ) → Option (List ℕ) → Closing → Type 0
ReadsTo limits read left left' closing.End = Consumes left left' read × IsSpent left left'
ReadsTo limits read left left' (closing.CutFrame number) = Consumes left left' read × IsSpent left left'
ReadsTo limits read left left' closing.TooLong = (length read ≡ limits.input) × ((x : ℕ) × Consumes left left' (read ++ x ∷ []))
ReadsTo limits read left left' c = Consumes left left' read

-- no more bytes than the limit
pub record MayBeRead (limits : LimitNumbers) (read : List ℕ) : Type 0 where
  pub fits : AreBytes read
  pub short : length read ≤ limits.input

-- these bytes were read, and perhaps one more
abbrev pub TakesFew : LimitNumbers → List ℕ → Option (List ℕ) → Option (List ℕ) → Type 0
TakesFew limits read left left' = (taken : List ℕ) × (length taken ≤ limits.input + 1) × Consumes left left' taken × ((more : List ℕ) × (taken ≡ read ++ more))

-- so many bytes may still be read; those that were are answered, and no whole frame is left of them
pub record Reads (limits : LimitNumbers) (start now : ReplicaState) (left left' out out' : Option (List ℕ)) (flushed flushed' : Option ℕ) (rest : List ℕ)
    (after room : ℕ) : Type 0 where
  pub read : List ℕ
  pub fits : AreBytes read
  pub taken : Consumes left left' read
  pub within : length read + room ≡ limits.input
  pub spoken : Spoken limits start now read rest out out' flushed flushed' 0 after
  pub found : Finds limits rest Partial

-- What a session comes to that is held over an input: bytes of it were read, and the frames in front of them were answered.
abbrev pub Talks : LimitNumbers → ReplicaState → ReplicaState → Option (List ℕ) → Option (List ℕ) → Option (List ℕ) → Option (List ℕ) → Option ℕ → Option ℕ
    → Result Closing Fault → Type 0
Talks limits start now left left' out out' flushed flushed' (Ok c) =
    (read : List ℕ) × MayBeRead limits read × ReadsTo limits read left left' c × Closed limits start now read out out' flushed flushed' 0 c
Talks limits start now left left' out out' flushed flushed' (Err fault_is.Source) =
    (read : List ℕ) × MayBeRead limits read × Consumes left left' read
    × ((rest : List ℕ) × (number : ℕ) × Spoken limits start now read rest out out' flushed flushed' 0 number × Finds limits rest Partial)
Talks limits start now left left' out out' flushed flushed' (Err halt) =
    (read : List ℕ) × MayBeRead limits read × TakesFew limits read left left' × Broken limits start read out out'

-- the end of the input is between two frames, or within the next
abbrev pub EndsWith : List ℕ → ℕ → Closing → Type 0
EndsWith rest number closing.End = rest ≡ []
EndsWith rest number (closing.CutFrame n) = (rest ≡ [] → ⊥) × (n ≡ suc number)
EndsWith rest number c = ⊥

-- a piece of at most so many bytes was read into the front of a buffer, or the source failed
abbrev pub Receives : Option (List ℕ) → Option (List ℕ) → ℕ → ℕ → ℕ → List ℕ → Result ℕ Fault → Type 0
Receives left left' before now most buffer (Ok n) = (n ≤ most) × Consumes left left' (take n buffer) × (0 < most → IsEnd n left) × (now ≡ before)
Receives left left' before now most buffer (Err fault_is.Source) = Keeps left left' × (before ≤ now) × Rose before now
Receives left left' before now most buffer (Err halt) = ⊥

-- At most a piece of 4,096 bytes was read behind bytes whose frames are answered, and that ended no session.
pub record IsPieceBehind (limits : LimitNumbers) (start : ReplicaState) (left left' out out' : Option (List ℕ)) : Type 0 where
  pub read : List ℕ
  pub piece : List ℕ
  pub short : length piece ≤ 4096
  pub taken : Consumes left left' (read ++ piece)
  pub frames : List Frame
  pub rest : List ℕ
  pub begins : BeginWith limits read frames rest
  pub found : Finds limits rest Partial
  pub unended : (exchanged start frames).end ≡ None
  pub more : List ℕ
  pub sent : Appends out out' ((exchanged start frames).sent ++ more)

-- what a session comes to, with its plan
abbrev pub PlansTalk : Text → LimitNumbers → ReplicaState → Option (List ℕ) → Option (List ℕ) → Option (List ℕ) → Option (List ℕ) → Option ℕ → Option ℕ
    → Result code.Reply Fault → Type 0
PlansTalk name limits start left left' out out' flushed flushed' (Ok p) =
    (now : ReplicaState) × (c : Closing) × Talks limits start now left left' out out' flushed flushed' (Ok c)
    × ClosesAs name limits (length start.held) now.held c (reply_view p)
PlansTalk name limits start left left' out out' flushed flushed' (Err halt) = (now : ReplicaState)
    × Talks limits start now left left' out out' flushed flushed' (Err halt)
