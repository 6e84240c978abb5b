-- What keeping the lines of a script leaves and prints.
use Rattle.std.specs.Prelude.{◌≡◌, ◌≤◌, ◌⊎◌, ⊤, ℕ, suc, List, [], ◌∷◌, ◌++◌, length, take, Option, Some, None, Result, Ok, Err}
use Rattle.std.specs.Io.KnownBytes.{Appends}
use Rattle.ew_model.specs.declared.event.Event.{Event}
use Rattle.ew_model.specs.Kept.{ReplicaState}
use Rattle.ew_model.specs.Limits.{LimitNumbers}
use Rattle.ew_model.specs.Edits.{Edit, EditRefusal}
use Rattle.ew_model.specs.Scripts.{Numbered}
use Rattle.ew_outside.specs.Bytes.{IsFlushed}
use Rattle.ew_outside.specs.Outputs.{GrowsByFront}
use Rattle.ew_outside.specs.Seen.{SinkSeen}
use Rattle.ew_outside.specs.declared.fault.Fault.TheVariants as fault_is
use Rattle.event_journal.specs.Disk.{StaysWithin}
use Rattle.event_journal.specs.Journal.{JournalSeen, Holds}
use Rattle.command_table.specs.Journals.{watch_end}
use Rattle.command_table.specs.Scripts.{Watched, watched_by, batches_of, told_of}
use Rattle.opened_files.specs.declared.reply.Reply as code
use Rattle.opened_files.specs.Views.{reply_view}
use Rattle.journal_plans.specs.Adding.{IsKeptAs, HoldsSome}
use Rattle.journal_plans.specs.declared.stop.Stop.{Stop}
use Rattle.journal_plans.specs.declared.stop.Stop.TheVariants as stop

-- these bytes were taken and flushed; where there are none, all is as before
abbrev pub SendsOn : SinkSeen → SinkSeen → List ℕ → Type 0
SendsOn out out' bytes = Appends out.taken out'.taken bytes × (((bytes ≡ []) × (out'.taken ≡ out.taken) × (out'.flushed ≡ out.flushed)) ⊎ IsFlushed out'.taken out'.flushed)

-- a text was printed and flushed once all stood; where the output failed, a front of it was, and else nothing
abbrev pub Prints : {T : Type 0} → SinkSeen → SinkSeen → List ℕ → Result T Stop → Type 0
Prints out out' text (Ok _) = Appends out.taken out'.taken text × IsFlushed out'.taken out'.flushed
Prints out out' text (Err (stop.Fault fault_is.Sink)) = GrowsByFront out.taken out'.taken text × (out'.flushed ≡ out.flushed)
Prints out out' text (Err halt) = (out'.taken ≡ out.taken) × (out'.flushed ≡ out.flushed)

-- The bytes hold the batches from before and a front of the lines', and all that was printed is of lines that stand there whole.
pub record HoldsLines (limits : LimitNumbers) (lines : List (List Event)) (before : List (List Event)) (out out' : SinkSeen) (bytes : List ℕ) : Type 0 where
  pub count : ℕ
  pub few : count ≤ length (batches_of limits lines)
  pub holds : Holds limits.body (before ++ take count (batches_of limits lines)) bytes
  pub whole_lines : ℕ
  pub within : whole_lines ≤ length lines
  pub stand : length (batches_of limits (take whole_lines lines)) ≤ count
  pub printed : GrowsByFront out.taken out'.taken (told_of (take whole_lines lines))

-- Keeping lines was stopped: what stands then.
pub record StopsAt (limits : LimitNumbers) (lines : List (List Event)) (before : List (List Event)) (told : Option (List ℕ)) (out out' : SinkSeen) (why : Stop) : Type 0 where
  pub bytes : List ℕ
  pub told_is : told ≡ Some bytes
  pub front : HoldsLines limits lines before out out' bytes
  -- where the disk failed, just these lines were printed, and at most one line more stands
  pub disk : why ≡ stop.Disk → SendsOn out out' (told_of (take front.whole_lines lines)) × (front.count ≤ length (batches_of limits (take (suc front.whole_lines) lines)))

-- all lines are kept and printed, or keeping them was stopped
abbrev pub KeepsBy : {T : Type 0} → LimitNumbers → List (List Event) → JournalSeen → (List ℕ → Type 0) → List (List Event) → Option (List ℕ) → SinkSeen → SinkSeen → Result T Stop → Type 0
KeepsBy limits lines journal may_leave before told out out' (Ok _) = IsKeptAs journal told may_leave (before ++ batches_of limits lines)
KeepsBy limits lines journal may_leave before told out out' (Err why) = StopsAt limits lines before told out out' why

-- whatever is known of the disk, what is printed of the lines
abbrev pub PrintsLines : {T : Type 0} → List (List Event) → SinkSeen → SinkSeen → Result T Stop → Type 0
PrintsLines lines out out' (Ok _) = SendsOn out out' (told_of lines)
PrintsLines lines out out' (Err why) = GrowsByFront out.taken out'.taken (told_of lines)

-- The lines of a script are kept: what stands and what is printed then, and what a crash leaves at any moment.
pub record KeepsLines {D T : Type 0} (may_leave : D → List ℕ → Type 0) (moment : D → ℕ) (left_since : D → ℕ → List ℕ → Type 0) (limits : LimitNumbers) (lines : List (List Event))
    (journal journal' : JournalSeen) (disk disk' : D) (told told' : Option (List ℕ)) (out out' : SinkSeen) (result : Result T Stop) : Type 0 where
  pub by : (before : List (List Event)) → IsKeptAs journal told (may_leave disk) before → KeepsBy limits lines journal' (may_leave disk') before told' out out' result
  pub moments : (before : List (List Event)) → IsKeptAs journal told (may_leave disk) before
      → StaysWithin moment left_since disk disk' (HoldsSome limits.body before (batches_of limits lines))
  -- a crash after it leaves all that was printed
  pub leaves : (before : List (List Event)) → IsKeptAs journal told (may_leave disk) before → (bytes : List ℕ) → may_leave disk' bytes → HoldsLines limits lines before out out' bytes
  pub prints : PrintsLines lines out out' result

-- a line that makes these events, as one that is kept; none where it makes none
abbrev pub made_lines : List Event → List (List Event)
made_lines [] = []
made_lines (e ∷ events) = (e ∷ events) ∷ []

-- what ends the lines of a script is the table's
abbrev pub EndsAs : LimitNumbers → Watched → Result (Option code.Reply) Stop → Type 0
EndsAs limits w (Ok None) = w.stopped ≡ None
EndsAs limits w (Ok (Some p)) = (at : ℕ × EditRefusal) × (w.stopped ≡ Some at) × (reply_view p ≡ watch_end limits (Some at))
EndsAs limits w (Err why) = ⊤

-- what is kept of an agent's edits of what a replica holds
abbrev pub kept_edits : List ℕ → ReplicaState → List (Numbered Edit) → Watched
kept_edits agent r items = watched_by r.limits agent r.held items
