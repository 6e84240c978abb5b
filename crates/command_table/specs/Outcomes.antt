-- What the objects show of a session that was carried out, or of how far it came.
use Rattle.std.specs.Prelude.{◌≡◌, ◌<◌, ◌+◌, ◌⊎◌, ℕ, List, [], ◌++◌, length, Some}
use Rattle.std.specs.Io.KnownBytes.{Appends}
use Rattle.ew_outside.specs.Bytes.{IsFlushed}
use Rattle.ew_outside.specs.Counts.{IsQuiet, next}
use Rattle.ew_outside.specs.Files.{Files}
use Rattle.ew_outside.specs.Outputs.{GrowsByFront, Sends}
use Rattle.command_table.specs.Refusals.{refusal_status, refusal_text}
use Rattle.command_table.specs.Seen.{Seen, Object, faults_of, TellsErr}
use Rattle.command_table.specs.Sessions.{Session, printed_by, session_answer}
use Rattle.command_table.specs.Table.{Text, Reply, prints, stores, refuses, Answer}

-- the run did what the table says
pub record IsAnswered (t : Answer) (old new : Seen) (code : ℕ) : Type 0 where
  pub status : code ≡ t.status
  pub files : new.shelf.files ≡ Some t.files
  pub out : Appends old.out.taken new.out.taken t.out
  pub err : TellsErr old new t.err

-- what was sent and printed, the status and what is told are those of a session that is closed by this reply
abbrev pub IsClosed : List ℕ → Reply → Seen → Seen → ℕ → Type 0
IsClosed sent (prints out) old new status = (status ≡ 0) × Appends old.out.taken new.out.taken (sent ++ out) × TellsErr old new []
IsClosed sent (stores out name bytes) old new status = (status ≡ 0) × Appends old.out.taken new.out.taken (sent ++ out) × TellsErr old new []
IsClosed sent (refuses why) old new status = (status ≡ refusal_status why) × Appends old.out.taken new.out.taken sent × TellsErr old new (refusal_text why)

-- a store failed: something was to be stored, all that is sent before was taken, and flushed if there is any, and nothing was printed
pub record FailsToStore (s : Session) (old new : Seen) : Type 0 where
  pub out : List ℕ
  pub name : Text
  pub bytes : List ℕ
  pub closing : s.closing ≡ stores out name bytes
  pub sends : Sends old.out.taken new.out.taken new.out.flushed s.sent

-- the count of stores after one of what a reply stores
abbrev pub stored_by : Reply → ℕ → ℕ
stored_by (prints out) count = count
stored_by (stores out name bytes) count = next count
stored_by (refuses why) count = count

-- the output, the status and the stores of a session, whatever the shelf tells
pub record IsSession (s : Session) (old new : Seen) (status : ℕ) : Type 0 where
  pub answered : (status ≡ 6 → ⊥) → (status ≡ 8 → ⊥) → IsClosed s.sent s.closing old new status
  pub flushed : (status ≡ 6 → ⊥) → (status ≡ 8 → ⊥) → (s.sent ≡ []) ⊎ IsFlushed new.out.taken new.out.flushed
  pub failed : status ≡ 6 → GrowsByFront old.out.taken new.out.taken (s.sent ++ printed_by s.closing)
  pub store_failed : old.shelf.faults < new.shelf.faults → IsQuiet old.shelf.failed_loads new.shelf.failed_loads → FailsToStore s old new
  pub memory : status ≡ 8 → GrowsByFront old.out.taken new.out.taken s.sent
  -- one store is made where the reply stores, and else none
  pub stores : status ≡ 0 → new.shelf.stores ≡ stored_by s.closing old.shelf.stores
  -- where something failed, so many were made, or none
  pub stores_failed : status ≡ 6 → (new.shelf.stores ≡ old.shelf.stores) ⊎ (new.shelf.stores ≡ stored_by s.closing old.shelf.stores)

-- a session over files that are known
pub record IsServed (s : Session) (files : Files) (old new : Seen) (status : ℕ) : Type 0 where
  pub session : IsSession s old new status
  pub answered : (status ≡ 6 → ⊥) → (status ≡ 8 → ⊥) → IsAnswered (session_answer s files) old new status
  pub failed : status ≡ 6 → (new.shelf.files ≡ old.shelf.files) ⊎ (new.shelf.files ≡ Some (session_answer s files).files)
  -- where a byte was taken of what is printed at last, what was to be stored is stored
  pub stored : (before bytes : List ℕ) → old.out.taken ≡ Some before → new.out.taken ≡ Some (before ++ bytes) → length s.sent < length bytes
      → new.shelf.files ≡ Some (session_answer s files).files
  -- and nothing is, where not all was taken that is sent before
  pub unstored : (before bytes : List ℕ) → old.out.taken ≡ Some before → new.out.taken ≡ Some (before ++ bytes) → length bytes < length s.sent
      → new.shelf.files ≡ old.shelf.files
  -- nor where it wasn't all flushed
  pub unflushed : (before : List ℕ) (n : ℕ) → old.out.taken ≡ Some before → new.out.flushed ≡ Some n → (s.sent ≡ [] → ⊥)
      → n < length before + length s.sent → new.shelf.files ≡ old.shelf.files
  -- where no count rose, it is the table's status, or out of memory
  pub complete : ((object : Object) → IsQuiet (faults_of object old) (faults_of object new)) → (status ≡ (session_answer s files).status) ⊎ (status ≡ 8)

-- where the output alone failed, what was to be stored is stored
abbrev pub StoresFirst : Session → Files → Seen → Seen → ℕ → Type 0
StoresFirst s files old new status = status ≡ 6 → IsQuiet old.shelf.faults new.shelf.faults → IsQuiet old.disk.faults new.disk.faults → IsQuiet old.input.faults new.input.faults
    → new.shelf.files ≡ Some (session_answer s files).files
