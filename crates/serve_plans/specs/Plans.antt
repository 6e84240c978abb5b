-- What the command `serve` answers and leaves.
use Rattle.std.specs.Prelude.{◌≡◌, ◌≤◌, ◌⊎◌, ⊤, ℕ, List, [], length, drop, false, Option, None, Some, Result, Ok, Err}
use Rattle.std.specs.List.{list_any}
use Rattle.ew_model.specs.declared.event.Event.{Event}
use Rattle.ew_model.specs.Limits.{LimitNumbers}
use Rattle.ew_outside.specs.Counts.{Rises}
use Rattle.ew_outside.specs.Files.{Files}
use Rattle.ew_outside.specs.Seen.{SourceSeen}
use Rattle.peer_frames.specs.declared.fault.FrameFault.{FrameFault}
use Rattle.peer_frames.specs.declared.fault.FrameFault.TheVariants as fault
use Rattle.ew_outside.specs.Outputs.{GrowsByFront, Sends}
use Rattle.command_table.specs.Possible.{MayServe}
use Rattle.command_table.specs.Reads.{TakesAtMost, LeavesInput}
use Rattle.command_table.specs.Framings.{Framing, IsFramingOf}
use Rattle.command_table.specs.Sessions.{Session, served, closed_reply, is_bye, RepliesTo, IsPrompt}
use Rattle.command_table.specs.Table.{Text, Reply, refuses, opened, open_file}
use Rattle.command_table.specs.Refusals.{Refusal, clash, input_too_long, frame_cut, bad_kind, frame_too_long, bad_body}
use Rattle.opened_files.specs.declared.reply.Reply as code
use Rattle.ew_outside.specs.declared.fault.Fault.TheVariants as fault_is
use Rattle.opened_files.specs.Views.{reply_view, reply_status}
use Rattle.ew_outside.specs.declared.fault.Fault.{Fault}
use Rattle.serve_plans.specs.declared.closing.Closing.{Closing}
use Rattle.serve_plans.specs.declared.closing.Closing.TheVariants as closing

-- the plan closes the session, and what is sent before was taken, and flushed if there is any; where the run halted, a front of it was taken
abbrev pub FollowsSession : Session → Option (List ℕ) → Option (List ℕ) → Option ℕ → Result code.Reply Fault → Type 0
FollowsSession s out out' flushed (Ok p) = (reply_view p ≡ s.closing) × Sends out out' flushed s.sent
FollowsSession s out out' flushed (Err halt) = GrowsByFront out out' s.sent

-- the session is the table's
abbrev pub Serves : Text → LimitNumbers → Option Files → Option (List ℕ) → Option (List ℕ) → Option (List ℕ) → Option ℕ → Result code.Reply Fault → Type 0
Serves name limits (Some files) (Some input) out out' flushed result =
    (f : Framing) → IsFramingOf limits input f → FollowsSession (served name limits files input f) out out' flushed result
Serves name limits files input out out' flushed result = ⊤

-- the session is one that the table has for some bytes of the file and some input
abbrev pub MayPlan : Text → LimitNumbers → Option (List ℕ) → Option (List ℕ) → Option ℕ → Result code.Reply Fault → Type 0
MayPlan name limits out out' flushed result = (s : Session) × MayServe name limits s × FollowsSession s out out' flushed result

-- at status 0 nothing is left of an input that was told, unless the peer said Bye
abbrev pub ReadsAll : LimitNumbers → Option (List ℕ) → Option (List ℕ) → Result code.Reply Fault → Type 0
ReadsAll limits (Some input) left (Ok p) = reply_status p ≡ 0 → (f : Framing) → IsFramingOf limits input f → list_any is_bye f.frames ≡ false → left ≡ Some []
ReadsAll limits input left result = ⊤

-- at status 0 or 5 no byte behind the limit was taken
abbrev pub ReadsWithin : LimitNumbers → Option (List ℕ) → Option (List ℕ) → Result code.Reply Fault → Type 0
ReadsWithin limits left left' (Ok p) = (reply_status p ≡ 0) ⊎ (reply_status p ≡ 5) → TakesAtMost limits.input left left'
ReadsWithin limits left left' (Err halt) = ⊤

-- where the source failed, exactly the frames that end within the bytes read were answered, and none of them ends the session
abbrev pub SendsReplies : Text → LimitNumbers → Option Files → Option (List ℕ) → Option (List ℕ) → Option (List ℕ) → Option (List ℕ) → Option ℕ
    → Result code.Reply Fault → Type 0
SendsReplies name limits (Some files) (Some input) left out out' flushed (Err fault_is.Source) =
    (events : List Event) (n : ℕ) → open_file name limits files ≡ opened events → left ≡ Some (drop n input) → n ≤ length input
    → RepliesTo limits events input n out out' flushed
SendsReplies name limits files input left out out' flushed result = ⊤

-- at most a piece is read behind frames that were answered
abbrev pub ReadsOn : Text → LimitNumbers → Option Files → Option (List ℕ) → Option (List ℕ) → Option (List ℕ) → Option (List ℕ) → Type 0
ReadsOn name limits (Some files) (Some input) left out out' = (events : List Event) → open_file name limits files ≡ opened events
    → IsPrompt limits events input left out out'
ReadsOn name limits files input left out out' = ⊤

-- where a load failed, the input and the output are as before
abbrev pub KeepsStreams : SourceSeen → SourceSeen → Option (List ℕ) → Option (List ℕ) → Result code.Reply Fault → Type 0
KeepsStreams input input' out out' (Err fault_is.Shelf) = LeavesInput input input' × (out' ≡ out)
KeepsStreams input input' out out' result = ⊤

-- which count moved of a step that reaches the output alone
abbrev pub SinkCauses : {T : Type 0} → ℕ → ℕ → Result T Fault → Type 0
SinkCauses before now (Ok _) = now ≡ before
SinkCauses before now (Err fault_is.Sink) = Rises before now
SinkCauses before now (Err fault_is.OutOfMemory) = now ≡ before
SinkCauses before now (Err fault_is.Shelf) = ⊥
SinkCauses before now (Err fault_is.Source) = ⊥

-- which counts moved of a step that reaches the input and the output
abbrev pub StreamCauses : {T : Type 0} → ℕ → ℕ → ℕ → ℕ → Result T Fault → Type 0
StreamCauses source source' sink sink' (Ok _) = (source' ≡ source) × (sink' ≡ sink)
StreamCauses source source' sink sink' (Err fault_is.Sink) = (source' ≡ source) × Rises sink sink'
StreamCauses source source' sink sink' (Err fault_is.OutOfMemory) = (source' ≡ source) × (sink' ≡ sink)
StreamCauses source source' sink sink' (Err fault_is.Shelf) = ⊥
StreamCauses source source' sink sink' (Err fault_is.Source) = Rises source source' × (sink' ≡ sink)

-- which counts moved: none, but that of the object that is named
abbrev pub Causes : {T : Type 0} → ℕ → ℕ → ℕ → ℕ → ℕ → ℕ → Result T Fault → Type 0
Causes shelf shelf' source source' sink sink' (Ok _) = (shelf' ≡ shelf) × (source' ≡ source) × (sink' ≡ sink)
Causes shelf shelf' source source' sink sink' (Err fault_is.Sink) = (shelf' ≡ shelf) × (source' ≡ source) × Rises sink sink'
Causes shelf shelf' source source' sink sink' (Err fault_is.OutOfMemory) = (shelf' ≡ shelf) × (source' ≡ source) × (sink' ≡ sink)
Causes shelf shelf' source source' sink sink' (Err fault_is.Shelf) = Rises shelf shelf' × (source' ≡ source) × (sink' ≡ sink)
Causes shelf shelf' source source' sink sink' (Err fault_is.Source) = (shelf' ≡ shelf) × Rises source source' × (sink' ≡ sink)

-- why there is no frame of a number; none where memory ran out
abbrev pub frame_refusal : ℕ → FrameFault → Option Refusal
frame_refusal number (fault.BadKind kind) = Some (bad_kind number kind)
frame_refusal number (fault.TooLong len) = Some (frame_too_long number len)
frame_refusal number fault.BadBody = Some (bad_body number)
frame_refusal number fault.OutOfMemory = None

-- what is done once a session is closed
abbrev pub ClosesAs : Text → LimitNumbers → ℕ → List Event → Closing → Reply → Type 0
ClosesAs name limits before held closing.End reply = reply ≡ closed_reply name before [] held
ClosesAs name limits before held (closing.Bye bytes) reply = reply ≡ closed_reply name before bytes.items held
ClosesAs name limits before held (closing.Clash x) reply = reply ≡ refuses (clash x)
ClosesAs name limits before held (closing.BadFrame number fault) reply = (why : Refusal) × (frame_refusal number fault ≡ Some why) × (reply ≡ refuses why)
ClosesAs name limits before held (closing.CutFrame number) reply = reply ≡ refuses (frame_cut number)
ClosesAs name limits before held closing.TooLong reply = reply ≡ refuses (input_too_long limits.input)
