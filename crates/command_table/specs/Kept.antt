-- What of a journal stands after a run, by what is to be kept of it and what was printed.
use Rattle.std.specs.Prelude.{◌≡◌, ◌≤◌, ◌<◌, ℕ, suc, List, ◌++◌, length, take, Some, true, false, Option}
use Rattle.ew_model.specs.declared.event.Event.{Event}
use Rattle.ew_model.specs.Limits.{LimitNumbers}
use Rattle.ew_outside.specs.Outputs.{Sends}
use Rattle.event_journal.specs.Disk.{TellsAlike}
use Rattle.command_table.specs.Journals.{Journal, IsJournal, TellsJournal, with_batches, with_lines, open_journal}
use Rattle.command_table.specs.Lines.{Meaning, IsInput, kept_of}
use Rattle.command_table.specs.Reads.{uses_journal, LeavesInput, IfRefused}
use Rattle.command_table.specs.Scripts.{batches_of, told_of}
use Rattle.command_table.specs.Seen.{Seen}
use Rattle.command_table.specs.Table.{Line}

-- the bytes are the journal from before, and behind it a front of the lines' batches
abbrev pub HoldsFront : LimitNumbers → Journal → List (List Event) → ℕ → List ℕ → Type 0
HoldsFront limits journal lines count bytes = IsJournal limits bytes (with_batches journal (take count (batches_of limits lines)))

-- so many bytes were printed, or fewer
abbrev pub PrintsAtMost : ℕ → Seen → Seen → Type 0
PrintsAtMost most old new = (before more : List ℕ) → old.out.taken ≡ Some before → new.out.taken ≡ Some (before ++ more) → length more ≤ most

-- The bytes hold all that was printed: behind the journal from before they hold a front of the lines' batches, and each line of which a
-- byte was printed stands there whole.
pub record HoldsPrinted (limits : LimitNumbers) (journal : Journal) (lines : List (List Event)) (old new : Seen) (bytes : List ℕ) : Type 0 where
  pub count : ℕ
  pub holds : HoldsFront limits journal lines count bytes
  pub whole_lines : ℕ
  pub stand : length (batches_of limits (take whole_lines lines)) ≤ count
  pub printed : PrintsAtMost (length (told_of (take whole_lines lines))) old new

-- The disk failed: each line that stands whole was printed and flushed, but perhaps the last.
pub record FailsToKeep (limits : LimitNumbers) (journal : Journal) (lines : List (List Event)) (old new : Seen) : Type 0 where
  pub told_lines : ℕ
  pub sends : Sends old.out.taken new.out.taken new.out.flushed (told_of (take told_lines lines))
  pub last : (bytes : List ℕ) (count n : ℕ) → new.disk.bytes ≡ Some bytes → HoldsFront limits journal lines count bytes → count ≤ length (batches_of limits lines)
      → n ≤ length lines → length (batches_of limits (take n lines)) ≤ count → n ≤ suc told_lines

-- What a run leaves of a journal that is known, behind which these lines are to be kept.
pub record Keeps (limits : LimitNumbers) (journal : Journal) (lines : List (List Event)) (old new : Seen) (status : ℕ) : Type 0 where
  -- they stand there, unless something failed or memory ran out
  pub whole : (status ≡ 6 → ⊥) → (status ≡ 8 → ⊥) → TellsJournal limits new.disk.bytes (with_lines limits journal lines)
  -- at any status all that was printed stands
  pub front : (bytes : List ℕ) × (new.disk.bytes ≡ Some bytes) × HoldsPrinted limits journal lines old new bytes
  -- where the source failed, nothing was kept
  pub source : old.input.faults < new.input.faults → TellsJournal limits new.disk.bytes journal
  -- where the disk failed, what was kept was printed, but perhaps the last line
  pub disk : old.disk.faults < new.disk.faults → FailsToKeep limits journal lines old new

-- What a run leaves of the journal.
pub record Journals (line : Option Line) (limits : LimitNumbers) (old new : Seen) (status : ℕ) : Type 0 where
  -- a line that has no use for it leaves the disk as it is, and so does one that is refused for a file that is there
  pub alone : uses_journal line ≡ false → new.disk ≡ old.disk
  pub there : status ≡ 3 → new.disk ≡ old.disk
  -- the disk tells its bytes exactly where it did before
  pub tells : TellsAlike old.disk.bytes new.disk.bytes
  -- over a journal and an input that are known, what the line keeps stands behind the journal
  pub known : (journal : Journal) (input : List ℕ) (meaning : Meaning line) → uses_journal line ≡ true → TellsJournal limits old.disk.bytes journal
      → IsInput limits line old.input.left input meaning → Keeps limits journal (kept_of line limits journal input meaning) old new status
  -- the input is left alone where the journal is refused; whatever is known of it, where it is bad
  pub untouched : (journal : Journal) → uses_journal line ≡ true → TellsJournal limits old.disk.bytes journal
      → IfRefused (open_journal limits journal) (LeavesInput old.input new.input)
  pub refused : uses_journal line ≡ true → status ≡ 4 → LeavesInput old.input new.input
