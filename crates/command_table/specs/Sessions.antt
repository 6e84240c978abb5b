-- What serving a peer comes to: the frames of an input are answered one after another, up to one that ends the session.
use Rattle.std.specs.Prelude.{◌≡◌, ◌≤◌, ◌+◌, ℕ, Bool, true, false, suc, List, [], ◌∷◌, ◌++◌, length, take, drop, flat_map, nat_lt, Option, None, Some, if◌then◌else◌}
use Rattle.std.specs.Io.KnownBytes.{Appends}
use Rattle.ew_model.specs.declared.event.Event.{Event}
use Rattle.file_words.specs.FileRuns.{file2_of}
use Rattle.ew_model.specs.Kept.{ReplicaState}
use Rattle.ew_model.specs.Limits.{LimitNumbers}
use Rattle.ew_outside.specs.Files.{Files}
use Rattle.peer_definitions.specs.declared.frame.Frame.{Frame}
use Rattle.peer_definitions.specs.declared.frame.Frame.TheVariants as frame
use Rattle.peer_definitions.specs.Cutting.{Front, AreFrames}
use Rattle.peer_definitions.specs.Cutting.Front.{Whole, Partial, BadKind, TooLong, BadBody}
use Rattle.peer_definitions.specs.Spelling.{frame_bytes}
use Rattle.peer_definitions.specs.Answering.{Answered, answer_to}
use Rattle.peer_definitions.specs.declared.end.End.{End}
use Rattle.peer_definitions.specs.declared.end.End.TheVariants as end
use Rattle.command_table.specs.Framings.{Framing}
use Rattle.ew_outside.specs.Outputs.{Sends}
use Rattle.command_table.specs.Refusals.{clash, input_too_long, frame_cut, bad_kind, frame_too_long, bad_body}
use Rattle.command_table.specs.Table.{Text, Reply, prints, stores, refuses, Opened, opened, refused, open_file, Answer, answer_of}

-- the spellings of frames, one after the other
abbrev pub bytes_of : List Frame → List ℕ
bytes_of frames = flat_map frame_bytes frames

-- What was answered to frames: all that was sent, apart from what the frame that ends the session gets; this; how it ends, if it
-- does; and what the replica stands for then.
pub record Exchange : Type 0 where
  pub sent : List ℕ
  pub last : List ℕ
  pub end : Option End
  pub state : ReplicaState

-- one answer, and then what comes, unless it ends the session
abbrev pub then_exchanged : Answered → Option End → Exchange → Exchange
then_exchanged a None more = record { sent = bytes_of a.frames ++ more.sent; last = more.last; end = more.end; state = more.state }
then_exchanged a (Some e) more = record { sent = []; last = bytes_of a.frames; end = Some e; state = a.state }

-- frames are answered in order
abbrev pub exchanged : ReplicaState → List Frame → Exchange
exchanged r [] = record { sent = []; last = []; end = None; state = r }
exchanged r (f ∷ frames) = then_exchanged (answer_to r f) (answer_to r f).end (exchanged (answer_to r f).state frames)

-- a session: what is sent while frames are answered, and what is done at last
pub record Session : Type 0 where
  pub sent : List ℕ
  pub closing : Reply

-- nothing is sent before the end
abbrev pub closed_by : Reply → Session
closed_by reply = record { sent = []; closing = reply }

-- a history with more events than were held before is stored, and then these bytes are printed; else they are printed alone
abbrev pub closed_reply : Text → ℕ → List ℕ → List Event → Reply
closed_reply name held_before out events = if nat_lt held_before (length events) then stores out name (file2_of events) else prints out

-- no bytes are left, or the next frame is cut
abbrev pub refusal_at_end : List ℕ → ℕ → Option Reply
refusal_at_end [] number = None
refusal_at_end (b ∷ bytes) number = Some (refuses (frame_cut number))

-- Why the frame of this number isn't answered: these bytes are no frame, or the input is too long, or it ends within the frame.
abbrev pub stop_refusal : LimitNumbers → List ℕ → ℕ → List ℕ → Front → Option Reply
stop_refusal limits input number rest (BadKind kind) = Some (refuses (bad_kind number kind))
stop_refusal limits input number rest (TooLong len) = Some (refuses (frame_too_long number len))
stop_refusal limits input number rest BadBody = Some (refuses (bad_body number))
stop_refusal limits input number rest (Whole f behind) = None
stop_refusal limits input number rest Partial = if nat_lt limits.input (length input) then Some (refuses (input_too_long limits.input)) else refusal_at_end rest number

-- the refusal, if there is one
abbrev pub or_closed : Option Reply → Reply → Reply
or_closed None reply = reply
or_closed (Some refusal) reply = refusal

-- A Bye is answered once the history is stored. A clash is told, and nothing is stored. Where no frame ended the session, the input may be at fault.
abbrev pub served_by : Text → LimitNumbers → List ℕ → Framing → ℕ → Exchange → Option End → Session
served_by name limits input f held_before t (Some end.Bye) = record { sent = t.sent; closing = closed_reply name held_before t.last t.state.held }
served_by name limits input f held_before t (Some (end.Clash x)) = record { sent = t.sent ++ t.last; closing = refuses (clash x) }
served_by name limits input f held_before t None =
    record { sent = t.sent; closing = or_closed (stop_refusal limits input (suc (length f.frames)) f.rest f.stop) (closed_reply name held_before [] t.state.held) }

-- what a replica stands for that was opened with these events
abbrev pub opened_state : LimitNumbers → List Event → ReplicaState
opened_state limits events = record { limits = limits; held = events; waiting = [] }

-- a peer is served with these events
abbrev pub served_from : Text → LimitNumbers → List ℕ → Framing → List Event → Session
served_from name limits input f events = let t = exchanged (opened_state limits events) f.frames in served_by name limits input f (length events) t t.end

-- a peer is served with the events of a file, which may be refused
abbrev pub served_as : Text → LimitNumbers → List ℕ → Framing → Opened → Session
served_as name limits input f (opened events) = served_from name limits input f events
served_as name limits input f (refused why) = closed_by (refuses why)

-- a peer is served with a file of a map
abbrev pub served : Text → LimitNumbers → Files → List ℕ → Framing → Session
served name limits files input f = served_as name limits input f (open_file name limits files)

-- what is printed at last
abbrev pub printed_by : Reply → List ℕ
printed_by (prints out) = out
printed_by (stores out name bytes) = out
printed_by (refuses why) = []

-- what a session answers: the output is what was sent, and what is printed at last
abbrev pub session_answer : Session → Files → Answer
session_answer s files = record (answer_of s.closing files) { out = s.sent ++ printed_by s.closing }

-- the peer says Bye
abbrev pub is_bye : Frame → Bool
is_bye frame.Bye = true
is_bye f = false

-- neither a frame nor a fault ended the session, and exactly the replies were taken
pub record IsReplied (t : Exchange) (stop : Front) (out out' : Option (List ℕ)) (flushed : Option ℕ) : Type 0 where
  -- none of the frames ends the session
  pub unended : t.end ≡ None
  -- and what comes after them is no more than the front of a frame
  pub partial : stop ≡ Partial
  -- the replies were taken, and flushed if there are any
  pub sends : Sends out out' flushed t.sent

-- exactly the frames that end within the first n bytes of the input were answered, and the session goes on after them
abbrev pub RepliesTo : LimitNumbers → List Event → List ℕ → ℕ → Option (List ℕ) → Option (List ℕ) → Option ℕ → Type 0
RepliesTo limits events input n out out' flushed =
    (frames : List Frame) (stop : Front) → AreFrames limits (take n input) frames stop → IsReplied (exchanged (opened_state limits events) frames) stop out out' flushed

-- neither a frame nor a fault ended the session, and the replies so far were taken, and perhaps further bytes
abbrev pub GoesOn : Exchange → Front → Option (List ℕ) → Option (List ℕ) → Type 0
GoesOn t stop out out' = (t.end ≡ None) × (stop ≡ Partial) × ((more : List ℕ) × Appends out out' (t.sent ++ more))

-- No more than a piece of 4,096 bytes was read after bytes that ended no session and whose frames were answered.
pub record IsPrompt (limits : LimitNumbers) (events : List Event) (input : List ℕ) (left out out' : Option (List ℕ)) : Type 0 where
  pub taken : ℕ
  pub answered : ℕ
  pub leaves : left ≡ Some (drop taken input)
  pub piece : taken ≤ answered + 4096
  pub goes_on : (frames : List Frame) (stop : Front) → AreFrames limits (take answered input) frames stop
      → GoesOn (exchanged (opened_state limits events) frames) stop out out'
