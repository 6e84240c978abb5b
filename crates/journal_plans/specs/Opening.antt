-- The journal as it was opened, and what is known of it.
use Rattle.std.specs.Prelude.{◌≡◌, ◌≤◌, ◌+◌, ◌⊎◌, ⊤, ℕ, List, [], length, Option, Result, Ok, Err}
use Rattle.ew_model.specs.Limits.{LimitNumbers}
use Rattle.ew_model.specs.Touches.{touches}
use Rattle.peer_definitions.specs.Batches.{journal_events}
use Rattle.command_table.specs.Journals.{Journal, TellsJournal}
use Rattle.command_table.specs.Refusals.{refusal_status, bad_batch, journal_too_many}
use Rattle.command_table.specs.Table as table
use Rattle.command_texts.specs.Reasons.{refusal_view}
use Rattle.command_texts.specs.declared.refusal.Refusal.{Refusal}
use Rattle.ew_outside.specs.declared.fault.Fault.TheVariants as fault_is
use Rattle.event_journal.specs.declared.fault.OpenFault.{OpenFault}
use Rattle.event_journal.specs.declared.fault.OpenFault.TheVariants as fault
use Rattle.opened_files.specs.declared.open.Found.{Found}
use Rattle.opened_files.specs.declared.open.Found.TheVariants as found
use Rattle.opened_files.specs.Views.{found_view}
use Rattle.journal_plans.specs.declared.stop.Stop.{Stop}
use Rattle.journal_plans.specs.declared.stop.Stop.TheVariants as stop
use Rattle.journal_plans.specs.declared.open.Opened.{Opened}

-- a journal that was opened as a replica
abbrev pub journal_view : Found Opened → table.Opened
journal_view f = found_view (λ o. o.replica.held) f

-- what is open is of these limits, and nothing waits in it; the journal counts its events
pub record IsFresh (limits : LimitNumbers) (o : Opened) : Type 0 where
  pub replica : o.replica.limits ≡ limits
  pub none_waits : o.replica.waiting ≡ []
  pub journal : o.journal.limits ≡ limits
  pub counted : o.journal.count ≡ length o.replica.held

-- it holds of what is open
abbrev pub IfOpen : Found Opened → (Opened → Type 0) → Type 0
IfOpen (found.Open o) P = P o
IfOpen (found.Refused why) P = ⊤

-- a journal is refused with one of these
abbrev pub IsJournalStatus : Found Opened → Type 0
IsJournalStatus (found.Open o) = ⊤
IsJournalStatus (found.Refused why) = (refusal_status (refusal_view why) ≡ 4) ⊎ (refusal_status (refusal_view why) ≡ 7)

-- why a journal wasn't opened, as the table says it, or what stopped it
abbrev pub RefusesOpening : LimitNumbers → OpenFault → Result Refusal Stop → Type 0
RefusesOpening limits fault.Failed result = result ≡ Err stop.Disk
RefusesOpening limits fault.OutOfMemory result = result ≡ Err (stop.Fault fault_is.OutOfMemory)
RefusesOpening limits (fault.BadBatch offset) (Ok why) = refusal_view why ≡ bad_batch offset
RefusesOpening limits (fault.BadBatch offset) (Err halt) = ⊥
RefusesOpening limits (fault.TooMany count) (Ok why) = refusal_view why ≡ journal_too_many limits.events
RefusesOpening limits (fault.TooMany count) (Err halt) = ⊥

-- where the journal is told, the steps rose by no more than the touches of its events
abbrev pub JournalTakes : LimitNumbers → Option (List ℕ) → ℕ → ℕ → Type 0
JournalTakes limits told before now = (j : Journal) → TellsJournal limits told j → now ≤ before + touches (journal_events j.batches) 0
