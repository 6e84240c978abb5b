-- What the code's values stand for.
use Rattle.std.specs.Prelude.{◌≡◌, ◌≤◌, ⊤, ℕ, List, [], Result, Ok, Err, ◌⊎◌, string_bytes}
use Rattle.ew_outside.specs.Counts.{Rose}
use Rattle.ew_outside.specs.Seen.{SourceSeen}
use Rattle.ew_model.specs.declared.event.Event.{Event}
use Rattle.ew_model.specs.Kept.{ReplicaState}
use Rattle.ew_model.specs.Limits.{LimitNumbers}
use Rattle.command_table.specs.Loads.{File}
use Rattle.command_table.specs.Reads.{LeavesInput, loads_of_all}
use Rattle.command_table.specs.Refusals.{refusal_status}
use Rattle.command_table.specs.Table.{Text, Reply, prints, stores, refuses, Opened, opened, refused, named_version, opened_as}
use Rattle.command_texts.specs.Reasons.{refusal_view}
use Rattle.opened_files.specs.declared.reply.Reply as code
use Rattle.opened_files.specs.declared.reply.Reply.TheVariants as reply_is
use Rattle.opened_files.specs.declared.open.Found.{Found}
use Rattle.opened_files.specs.declared.open.Versioned.{Versioned}
use Rattle.opened_files.specs.declared.open.Found.TheVariants as found
use Rattle.ew_outside.specs.declared.fault.Fault.{Fault}
use Rattle.ew_outside.specs.declared.fault.Fault.TheVariants as fault_is

-- a file as it was opened, where these are the events of what was made of it
abbrev pub found_view : {T : Type 0} → (T → List Event) → Found T → Opened
found_view events (found.Open made) = opened (events made)
found_view events (found.Refused why) = refused (refusal_view why)

-- a file that was opened as a replica
abbrev pub opened_view : Found ReplicaState → Opened
opened_view f = found_view (λ r. r.held) f

-- a file that was opened for its events alone
abbrev pub graph_view : Found (List Event) → Opened
graph_view f = found_view (λ events. events) f

-- a file that was opened as a replica and a version
abbrev pub versioned_view : Found Versioned → Opened
versioned_view f = found_view (λ made. made.replica.held) f

-- the version is this, where the file is open
abbrev pub IsOfVersion : ℕ → Found Versioned → Type 0
IsOfVersion version (found.Open made) = made.version ≡ version
IsOfVersion version (found.Refused why) = ⊤

-- a file was opened, with the version that its bytes name
abbrev pub IsVersioned : Text → LimitNumbers → File → Found Versioned → Type 0
IsVersioned name limits file f = (versioned_view f ≡ opened_as name limits file) × IsOfVersion (named_version file) f

-- the reply of the table that a reply of the code stands for
abbrev pub reply_view : code.Reply → Reply
reply_view (reply_is.Prints out) = prints out.items
reply_view (reply_is.Stores out name bytes) = stores out.items (string_bytes name) bytes.items
reply_view (reply_is.Refuses why) = refuses (refusal_view why)

-- which count moved of a step that reaches the shelf alone
abbrev pub ShelfCauses : {T : Type 0} → ℕ → ℕ → Result T Fault → Type 0
ShelfCauses before now (Ok _) = now ≡ before
ShelfCauses before now (Err fault_is.OutOfMemory) = now ≡ before
ShelfCauses before now (Err fault_is.Shelf) = (before ≤ now) × Rose before now
ShelfCauses before now (Err fault_is.Source) = ⊥
ShelfCauses before now (Err fault_is.Sink) = ⊥

-- its status
abbrev pub reply_status : code.Reply → ℕ
reply_status (reply_is.Prints _) = 0
reply_status (reply_is.Stores _ _ _) = 0
reply_status (reply_is.Refuses why) = refusal_status (refusal_view why)

-- the count of misses rises exactly where the reply is to say that a file is missing
abbrev pub MissesBy : ℕ → ℕ → Result code.Reply Fault → Type 0
MissesBy before now (Ok p) = (before ≤ now) × (reply_status p ≡ 3 → Rose before now) × ((reply_status p ≡ 3 → ⊥) → now ≡ before)
MissesBy before now (Err _) = before ≤ now

-- a load failed exactly where the shelf did
abbrev pub FailedLoadsBy : {T : Type 0} → ℕ → ℕ → Result T Fault → Type 0
FailedLoadsBy before now (Err fault_is.Shelf) = (before ≤ now) × Rose before now
FailedLoadsBy before now result = now ≡ before

-- unless the line is refused, one load was made of each of these files
abbrev pub LoadsDone : List Text → ℕ → ℕ → code.Reply → Type 0
LoadsDone names before now (reply_is.Prints _) = now ≡ loads_of_all names before
LoadsDone names before now (reply_is.Stores _ _ _) = now ≡ loads_of_all names before
LoadsDone names before now (reply_is.Refuses _) = ⊤

-- and unless a load failed, or memory ran out
abbrev pub LoadsAll : List Text → ℕ → ℕ → Result code.Reply Fault → Type 0
LoadsAll names before now (Ok p) = LoadsDone names before now p
LoadsAll names before now (Err fault_is.Shelf) = ⊤
LoadsAll names before now (Err fault_is.OutOfMemory) = ⊤
LoadsAll names before now (Err fault_is.Source) = now ≡ loads_of_all names before
LoadsAll names before now (Err fault_is.Sink) = now ≡ loads_of_all names before

-- at status 3 or 4, where the file is missing or bad, the input is as before
abbrev pub ReadsNone : SourceSeen → SourceSeen → Result code.Reply Fault → Type 0
ReadsNone old new (Ok p) = (reply_status p ≡ 3) ⊎ (reply_status p ≡ 4) → LeavesInput old new
ReadsNone old new (Err _) = ⊤

-- the statuses of a line that is taken and refused
abbrev pub IsRefusal : ℕ → Type 0
IsRefusal n = (n ≡ 3) ⊎ ((n ≡ 4) ⊎ ((n ≡ 5) ⊎ (n ≡ 7)))

-- a file of a faulty grammar is refused with one of these
abbrev pub IsFileStatus : ℕ → Type 0
IsFileStatus n = (n ≡ 4) ⊎ (n ≡ 7)

-- a file whose events were judged is open, or was refused for an event
abbrev pub IsJudged : {T : Type 0} → Found T → Type 0
IsJudged (found.Open _) = ⊤
IsJudged (found.Refused why) = refusal_status (refusal_view why) ≡ 4

-- a file that is open, or was refused with a status of a line that is refused
abbrev pub IsOpenable : {T : Type 0} → Found T → Type 0
IsOpenable (found.Open _) = ⊤
IsOpenable (found.Refused why) = IsRefusal (refusal_status (refusal_view why))

-- a file that is open is a replica of these limits, in which nothing waits
abbrev pub IsFresh : LimitNumbers → Found ReplicaState → Type 0
IsFresh limits (found.Open replica) = (replica.limits ≡ limits) × (replica.waiting ≡ [])
IsFresh limits (found.Refused _) = ⊤

-- the count of misses rises where the file is missing
abbrev pub OpenMisses : {T : Type 0} → ℕ → ℕ → Result (Found T) Fault → Type 0
OpenMisses before now (Ok (found.Open _)) = now ≡ before
OpenMisses before now (Ok (found.Refused why)) =
    (before ≤ now) × (refusal_status (refusal_view why) ≡ 3 → Rose before now) × ((refusal_status (refusal_view why) ≡ 3 → ⊥) → now ≡ before)
OpenMisses before now (Err _) = before ≤ now

-- the reply of a line that is taken
abbrev pub IsTakenReply : code.Reply → Type 0
IsTakenReply (reply_is.Refuses why) = IsRefusal (refusal_status (refusal_view why))
IsTakenReply _ = ⊤
