-- What a watch and an export answer, and what they leave of the journal.
use Rattle.std.specs.Prelude.{◌≡◌, ◌≤◌, ◌⊎◌, ⊤, ℕ, suc, List, [], length, take, Option, Some, None, Result, Ok, Err, IfOk}
use Rattle.ew_model.specs.declared.event.Event.{Event}
use Rattle.ew_model.specs.Limits.{LimitNumbers}
use Rattle.ew_outside.specs.Outputs.{GrowsByFront, Sends}
use Rattle.ew_outside.specs.Seen.{SinkSeen, SourceSeen}
use Rattle.ew_outside.specs.declared.fault.Fault.TheVariants as fault_is
use Rattle.event_journal.specs.Disk.{StaysWithin}
use Rattle.command_table.specs.Crashes.{HoldsSameAsOne, HoldsSomeFront}
use Rattle.command_table.specs.Journals.{Journal, IsJournal, TellsJournal, with_lines, watch_input}
use Rattle.command_table.specs.Kept.{HoldsFront}
use Rattle.command_table.specs.Loads.{File, missing, too_long, whole}
use Rattle.command_table.specs.Reads.{LeavesInput}
use Rattle.command_table.specs.Scripts.{batches_of, told_of, Means, Reading}
use Rattle.command_table.specs.Sessions.{Session}
use Rattle.opened_files.specs.declared.reply.Reply as code
use Rattle.opened_files.specs.Views.{reply_status, reply_view}
use Rattle.journal_plans.specs.declared.open.Opened.{Opened}
use Rattle.journal_plans.specs.declared.stop.Stop.{Stop}
use Rattle.journal_plans.specs.declared.stop.Stop.TheVariants as stop
use Rattle.journal_plans.specs.Keeping.{KeepsLines}

-- the plan closes the session, and what is sent before was taken, and flushed if there is any; where the run was stopped, a front of it was taken
abbrev pub FollowsWatch : Session → SinkSeen → SinkSeen → Result code.Reply Stop → Type 0
FollowsWatch s out out' (Ok p) = (reply_view p ≡ s.closing) × Sends out.taken out'.taken out'.flushed s.sent
FollowsWatch s out out' (Err why) = GrowsByFront out.taken out'.taken s.sent

-- the source failed
abbrev pub IsOfSource : {T : Type 0} → Result T Stop → Type 0
IsOfSource (Err (stop.Fault fault_is.Source)) = ⊤
IsOfSource result = ⊥

-- A run over the journal was stopped: a front of what is to be kept stands, and all that was printed is of lines that stand whole.
pub record StopsIn (limits : LimitNumbers) (j : Journal) (lines : List (List Event)) (told : Option (List ℕ)) (out out' : SinkSeen) (why : Stop) : Type 0 where
  pub bytes : List ℕ
  pub told_is : told ≡ Some bytes
  pub count : ℕ
  pub few : count ≤ length (batches_of limits lines)
  pub holds : HoldsFront limits j lines count bytes
  pub whole_lines : ℕ
  pub stand : length (batches_of limits (take whole_lines lines)) ≤ count
  pub printed : GrowsByFront out.taken out'.taken (told_of (take whole_lines lines))
  -- where the disk failed, just these lines were printed, and at most one line more stands
  pub disk : why ≡ stop.Disk → Sends out.taken out'.taken out'.flushed (told_of (take whole_lines lines)) × (count ≤ length (batches_of limits (take (suc whole_lines) lines)))
  -- where the source failed, nothing was kept
  pub source : why ≡ stop.Fault fault_is.Source → count ≡ 0

-- all stands, or the run was stopped
abbrev pub StandsIn : LimitNumbers → Journal → List (List Event) → Option (List ℕ) → SinkSeen → SinkSeen → Result code.Reply Stop → Type 0
StandsIn limits j lines told out out' (Ok p) = TellsJournal limits told (with_lines limits j lines)
StandsIn limits j lines told out out' (Err why) = StopsIn limits j lines told out out' why

-- the bytes are the journal and a front of what is to be kept, and all that was printed is of lines that stand there whole
pub record HoldsTold (limits : LimitNumbers) (j : Journal) (lines : List (List Event)) (out out' : SinkSeen) (bytes : List ℕ) : Type 0 where
  pub count : ℕ
  pub holds : HoldsFront limits j lines count bytes
  pub whole_lines : ℕ
  pub stand : length (batches_of limits (take whole_lines lines)) ≤ count
  pub printed : GrowsByFront out.taken out'.taken (told_of (take whole_lines lines))

-- What a plan leaves of a journal that is known, behind which these lines are to be kept.
pub record KeepsJournal {D : Type 0} (may_leave : D → List ℕ → Type 0) (moment : D → ℕ) (left_since : D → ℕ → List ℕ → Type 0) (limits : LimitNumbers) (j : Journal)
    (lines : List (List Event)) (disk disk' : D) (told told' : Option (List ℕ)) (out out' : SinkSeen) (result : Result code.Reply Stop) : Type 0 where
  pub stands : StandsIn limits j lines told' out out' result
  pub crashes : (bytes : List ℕ) → may_leave disk' bytes → HoldsTold limits j lines out out' bytes ⊎ ((out'.taken ≡ out.taken) × HoldsSameAsOne limits (may_leave disk) bytes)
  pub done : IfOk result (λ p. reply_status p ≡ 0 → (bytes : List ℕ) → may_leave disk' bytes → IsJournal limits bytes (with_lines limits j lines))
  pub inside : StaysWithin moment left_since disk disk' (λ bytes. HoldsSameAsOne limits (may_leave disk) bytes ⊎ HoldsSomeFront limits j lines bytes)

-- Over an open journal, whatever the input means: the session is the table's, and its lines are kept.
abbrev pub KeepsInput : {D : Type 0} → (D → List ℕ → Type 0) → (D → ℕ) → (D → ℕ → List ℕ → Type 0) → List ℕ → LimitNumbers → Opened → Opened → D → D → Option (List ℕ) → Option (List ℕ)
    → Option (List ℕ) → SinkSeen → SinkSeen → Result code.Reply Stop → Type 0
KeepsInput may_leave moment left_since agent limits o o' disk disk' told told' left out out' result = (input : List ℕ) (reading : Reading) → left ≡ Some input → Means input reading
    → let w = watch_input agent limits input reading o.replica.held in
    FollowsWatch w.session out out' result
    × KeepsLines may_leave moment left_since limits w.kept o.journal o'.journal disk disk' told told' out out' result

-- at status 0 nothing is left of an input that was told
abbrev pub ReadsAll : Option (List ℕ) → Option (List ℕ) → Result code.Reply Stop → Type 0
ReadsAll (Some input) new (Ok p) = reply_status p ≡ 0 → new ≡ Some []
ReadsAll told new result = ⊤

-- at status 4, where the journal is bad, the input is as before
abbrev pub ReadsNone : SourceSeen → SourceSeen → Result code.Reply Stop → Type 0
ReadsNone old new (Ok p) = reply_status p ≡ 4 → LeavesInput old new
ReadsNone old new (Err why) = ⊤

-- an output that nothing is known of and nothing is printed on
abbrev pub unprinted : SinkSeen
unprinted = record { taken = None; flushed = None; faults = 0 }

-- a file that was loaded is there
abbrev pub IsThere : File → Type 0
IsThere missing = ⊥
IsThere too_long = ⊤
IsThere (whole bytes) = ⊤
