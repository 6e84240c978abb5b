-- How a run ends, once its reply is made.
use Rattle.std.specs.Prelude.{◌≡◌, ◌≤◌, ⊤, ℕ, List, [], Option, None, Some, Result, Ok, Err, ◌⊎◌, string_bytes}
use Rattle.std.specs.FinMap.{insert}
use Rattle.std.specs.Io.KnownBytes.{Appends}
use Rattle.ew_outside.specs.Files.{Files}
use Rattle.ew_outside.specs.Counts.{IsQuiet, Rose}
use Rattle.ew_outside.specs.Bytes.{IsFlushed}
use Rattle.ew_outside.specs.Outputs.{GrowsByFront, Tells}
use Rattle.ew_outside.specs.Seen.{ShelfSeen, SinkSeen}
use Rattle.ew_outside.specs.declared.fault.Fault.{Fault}
use Rattle.ew_outside.specs.declared.fault.Fault.TheVariants as fault_is
use Rattle.command_table.specs.Outcomes.{stored_by}
use Rattle.command_table.specs.Refusals.{refusal_status, refusal_text}
use Rattle.command_table.specs.Text.{shelf_failed, disk_failed, source_failed, sink_failed, out_of_memory}
use Rattle.command_texts.specs.Reasons.{refusal_view}
use Rattle.command_texts.specs.declared.refusal.Refusal.{Refusal}
use Rattle.opened_files.specs.Views.{reply_view}
use Rattle.opened_files.specs.declared.reply.Reply as code
use Rattle.opened_files.specs.declared.reply.Reply.TheVariants as reply_is
use Rattle.journal_plans.specs.declared.stop.Stop.{Stop}
use Rattle.journal_plans.specs.declared.stop.Stop.TheVariants as stop
use Rattle.command_runs.specs.declared.ending.Told.{Told}

-- what the reply stores, applied to a map
abbrev pub files_after : code.Reply → Files → Files
files_after (reply_is.Prints _) m = m
files_after (reply_is.Stores _ name bytes) m = insert m (string_bytes name) bytes.items
files_after (reply_is.Refuses _) m = m

abbrev pub out_of : code.Reply → List ℕ
out_of (reply_is.Prints out) = out.items
out_of (reply_is.Stores out _ _) = out.items
out_of (reply_is.Refuses _) = []

-- the map is as after the reply, where it was known
abbrev pub FilesAfter : code.Reply → Option Files → Option Files → Type 0
FilesAfter p None new = ⊤
FilesAfter p (Some m) new = new ≡ Some (files_after p m)

-- a refusal is told with its status and its text, unless memory ran out
abbrev pub IsTold : Refusal → Result (Option Told) Fault → Type 0
IsTold why (Ok (Some told)) = (told.status ≡ refusal_status (refusal_view why)) × (told.text.items ≡ refusal_text (refusal_view why))
IsTold why (Ok None) = ⊥
IsTold why (Err fault) = fault ≡ fault_is.OutOfMemory

-- which ending a reply may have
abbrev pub EndsReply : Result code.Reply Fault → Result (Option Told) Fault → Type 0
EndsReply (Err fault) ending = ending ≡ Err fault
EndsReply (Ok (reply_is.Refuses why)) ending = IsTold why ending
EndsReply (Ok (reply_is.Prints _)) (Ok None) = ⊤
EndsReply (Ok (reply_is.Prints _)) (Err fault_is.Sink) = ⊤
EndsReply (Ok (reply_is.Prints _)) _ = ⊥
EndsReply (Ok (reply_is.Stores _ _ _)) (Ok (Some _)) = ⊥
EndsReply (Ok (reply_is.Stores _ _ _)) (Err fault_is.Source) = ⊥
EndsReply (Ok (reply_is.Stores _ _ _)) _ = ⊤

-- what an ending leaves of the map
abbrev pub EndFiles : Result code.Reply Fault → Result (Option Told) Fault → Option Files → Option Files → Type 0
EndFiles (Err _) _ old new = new ≡ old
EndFiles (Ok p) (Ok None) old new = FilesAfter p old new
EndFiles (Ok p) (Err fault_is.Sink) old new = FilesAfter p old new
EndFiles (Ok p) (Err fault_is.Shelf) old new = (new ≡ old) ⊎ FilesAfter p old new
EndFiles (Ok p) _ old new = new ≡ old

-- what an ending leaves of the output
abbrev pub EndOut : Result code.Reply Fault → Result (Option Told) Fault → Option (List ℕ) → Option (List ℕ) → Option ℕ → Type 0
EndOut (Ok p) (Ok None) old new flushed = Appends old new (out_of p) × IsFlushed new flushed
EndOut (Ok p) (Err fault_is.Sink) old new flushed = GrowsByFront old new (out_of p)
EndOut _ _ old new flushed = new ≡ old

-- nothing is flushed but where the reply was carried out whole
abbrev pub EndFlushed : Result code.Reply Fault → Result (Option Told) Fault → Option ℕ → Option ℕ → Type 0
EndFlushed (Ok p) (Ok None) old new = ⊤
EndFlushed _ _ old new = new ≡ old

-- which count moved while the reply was carried out
abbrev pub EndShelfCount : Result code.Reply Fault → Result (Option Told) Fault → ℕ → ℕ → Type 0
EndShelfCount (Ok _) (Err fault_is.Shelf) before now = (before ≤ now) × Rose before now
EndShelfCount _ _ before now = now ≡ before

abbrev pub EndSinkCount : Result code.Reply Fault → Result (Option Told) Fault → ℕ → ℕ → Type 0
EndSinkCount (Ok _) (Err fault_is.Sink) before now = (before ≤ now) × Rose before now
EndSinkCount _ _ before now = now ≡ before

-- what the reply stores is stored once; not where memory ran out, nor where there is no reply
abbrev pub EndStores : Result code.Reply Fault → Result (Option Told) Fault → ℕ → ℕ → Type 0
EndStores (Err _) _ before now = now ≡ before
EndStores (Ok p) (Err fault_is.OutOfMemory) before now = now ≡ before
EndStores (Ok p) _ before now = now ≡ stored_by (reply_view p) before

-- what a fault is told as, and the status that it ends with
abbrev pub fault_text : Fault → List ℕ
fault_text fault_is.Shelf = shelf_failed
fault_text fault_is.Source = source_failed
fault_text fault_is.Sink = sink_failed
fault_text fault_is.OutOfMemory = out_of_memory

abbrev pub fault_status : Fault → ℕ
fault_status fault_is.Shelf = 6
fault_status fault_is.Source = 6
fault_status fault_is.Sink = 6
fault_status fault_is.OutOfMemory = 8

abbrev pub end_status : Result (Option Told) Fault → ℕ
end_status (Ok None) = 0
end_status (Ok (Some told)) = told.status
end_status (Err fault) = fault_status fault

abbrev pub end_text : Result (Option Told) Fault → List ℕ
end_text (Ok None) = []
end_text (Ok (Some told)) = told.text.items
end_text (Err fault) = fault_text fault

-- nothing is said where the run is done
abbrev pub SaysNone : Result (Option Told) Fault → SinkSeen → SinkSeen → Type 0
SaysNone (Ok None) old new = (new.taken ≡ old.taken) × (new.faults ≡ old.faults)
SaysNone _ old new = ⊤

-- what is said is flushed, where the error output didn't fail
abbrev pub IsToldWhole : Result (Option Told) Fault → SinkSeen → SinkSeen → Type 0
IsToldWhole (Ok None) old new = ⊤
IsToldWhole _ old new = IsQuiet old.faults new.faults → IsFlushed new.taken new.flushed

-- what printing leaves of the output
abbrev pub PrintLeaves : Result (Option Told) Fault → SinkSeen → SinkSeen → List ℕ → Type 0
PrintLeaves (Ok None) old new bytes = Appends old.taken new.taken bytes × IsFlushed new.taken new.flushed × (new.faults ≡ old.faults)
PrintLeaves (Ok (Some told)) old new bytes = ⊥
PrintLeaves (Err fault_is.Sink) old new bytes =
    GrowsByFront old.taken new.taken bytes × (new.flushed ≡ old.flushed) × ((old.faults ≤ new.faults) × Rose old.faults new.faults)
PrintLeaves (Err fault) old new bytes = ⊥

-- a reply, or what stopped it, was carried out and told by this ending
pub record IsEnded (planned : Result code.Reply Fault) (ending : Result (Option Told) Fault) (shelf shelf' : ShelfSeen) (out out' err err' : SinkSeen) (code : ℕ) : Type 0 where
  pub which : EndsReply planned ending
  pub files : EndFiles planned ending shelf.files shelf'.files
  pub taken : EndOut planned ending out.taken out'.taken out'.flushed
  pub flushed : EndFlushed planned ending out.flushed out'.flushed
  pub shelf_count : EndShelfCount planned ending shelf.faults shelf'.faults
  pub sink_count : EndSinkCount planned ending out.faults out'.faults
  pub no_miss : shelf'.misses ≡ shelf.misses
  pub no_load : shelf'.loads ≡ shelf.loads
  pub no_loss : shelf'.failed_loads ≡ shelf.failed_loads
  pub no_ask : shelf'.asked ≡ shelf.asked
  pub stores : EndStores planned ending shelf.stores shelf'.stores
  pub status : code ≡ end_status ending
  pub text : Tells err.taken err'.taken err.faults err'.faults (end_text ending)
  pub silent : SaysNone ending err err'
  pub whole : IsToldWhole ending err err'

-- what was planned over the journal was carried out and told, or what stopped it was told
abbrev pub EndsKept : Result code.Reply Stop → ShelfSeen → ShelfSeen → SinkSeen → SinkSeen → SinkSeen → SinkSeen → ℕ → Type 0
EndsKept (Err stop.Disk) shelf shelf' out out' err err' code =
    (shelf' ≡ shelf) × (out' ≡ out) × (code ≡ 6) × Tells err.taken err'.taken err.faults err'.faults disk_failed × (IsQuiet err.faults err'.faults → IsFlushed err'.taken err'.flushed)
EndsKept (Err (stop.Fault fault)) shelf shelf' out out' err err' code = (shelf' ≡ shelf) × (out' ≡ out) × IsEnded (Err fault) (Err fault) shelf shelf' out out' err err' code
EndsKept (Ok p) shelf shelf' out out' err err' code = (ending : Result (Option Told) Fault) × IsEnded (Ok p) ending shelf shelf' out out' err err' code
