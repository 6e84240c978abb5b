-- What adding batches behind a journal does to a disk that is as the journal left it.
use Rattle.std.specs.Prelude.{◌≡◌, ◌≤◌, ℕ, false, List, ◌++◌, length, take, Option, Some, Result, Ok, Err}
use Rattle.ew_model.specs.declared.event.Event.{Event}
use Rattle.ew_outside.specs.declared.fault.Fault.TheVariants as fault_is
use Rattle.event_journal.specs.Disk.{StaysWithin}
use Rattle.event_journal.specs.Journal.{JournalSeen, IsKept, IsKeptOn, Holds}
use Rattle.journal_plans.specs.declared.stop.Stop.{Stop}
use Rattle.journal_plans.specs.declared.stop.Stop.TheVariants as stop

-- the disk tells its bytes, which hold these batches, and it is as the journal left it
abbrev pub IsKeptAs : JournalSeen → Option (List ℕ) → (List ℕ → Type 0) → List (List Event) → Type 0
IsKeptAs journal told may_leave batches = (bytes : List ℕ) × (told ≡ Some bytes) × IsKept journal bytes may_leave batches

-- the bytes hold the batches from before, and a front of those that are added
abbrev pub HoldsSome : ℕ → List (List Event) → List (List Event) → List ℕ → Type 0
HoldsSome most before added bytes = (count : ℕ) × (count ≤ length added) × Holds most (before ++ take count added) bytes

-- a disk tells such bytes
abbrev pub TellsSome : ℕ → Option (List ℕ) → List (List Event) → List (List Event) → Type 0
TellsSome most told before added = (bytes : List ℕ) × (told ≡ Some bytes) × HoldsSome most before added bytes

-- all that is added stands, also where the output alone failed, and where something else stopped it, a front of it
abbrev pub StandsBy : {T : Type 0} → JournalSeen → Option (List ℕ) → (List ℕ → Type 0) → List (List Event) → List (List Event) → Result T Stop → Type 0
StandsBy journal told may_leave before added (Ok _) = IsKeptAs journal told may_leave (before ++ added)
StandsBy journal told may_leave before added (Err (stop.Fault fault_is.Sink)) = IsKeptAs journal told may_leave (before ++ added)
StandsBy journal told may_leave before added (Err halt) = TellsSome journal.limits.body told before added

-- Batches are added: what stands then, and what a crash leaves at any moment.
pub record Adds {D T : Type 0} (may_leave : D → List ℕ → Type 0) (moment : D → ℕ) (left_since : D → ℕ → List ℕ → Type 0) (journal journal' : JournalSeen) (disk disk' : D)
    (told told' : Option (List ℕ)) (added : List (List Event)) (result : Result T Stop) : Type 0 where
  pub stands : (before : List (List Event)) → IsKeptAs journal told (may_leave disk) before → StandsBy journal' told' (may_leave disk') before added result
  pub moments : (before : List (List Event)) → IsKeptAs journal told (may_leave disk) before → StaysWithin moment left_since disk disk' (HoldsSome journal.limits.body before added)

-- the journal is open, and the disk is as it left it
pub record IsReady (journal : JournalSeen) (told : Option (List ℕ)) (may_leave : List ℕ → Type 0) : Type 0 where
  pub whole : journal.failed ≡ false
  pub kept : IsKeptOn journal told may_leave
