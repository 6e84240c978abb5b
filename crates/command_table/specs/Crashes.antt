-- What a crash leaves of the journal, after a run and inside it.
use Rattle.std.specs.Prelude.{◌≡◌, ◌⊎◌, ℕ, true, false, List, Option}
use Rattle.ew_model.specs.declared.event.Event.{Event}
use Rattle.ew_model.specs.Limits.{LimitNumbers}
use Rattle.event_journal.specs.Disk.{StaysWithin}
use Rattle.event_journal.specs.Journal.{HoldSame}
use Rattle.command_table.specs.Journals.{Journal, IsJournal, TellsJournal, with_lines}
use Rattle.command_table.specs.Kept.{HoldsFront, HoldsPrinted}
use Rattle.command_table.specs.Lines.{Meaning, IsInput, kept_of}
use Rattle.command_table.specs.Reads.{uses_journal}
use Rattle.command_table.specs.Seen.{Seen}
use Rattle.command_table.specs.Table.{Line}

-- the bytes hold the batches of some that a crash might have left
abbrev pub HoldsSameAsOne : LimitNumbers → (List ℕ → Type 0) → List ℕ → Type 0
HoldsSameAsOne limits might_leave bytes = (others : List ℕ) × might_leave others × HoldSame limits.body others bytes

-- the bytes are the journal from before, and behind it some front of the lines' batches
abbrev pub HoldsSomeFront : LimitNumbers → Journal → List (List Event) → List ℕ → Type 0
HoldsSomeFront limits journal lines bytes = (count : ℕ) × HoldsFront limits journal lines count bytes

-- What a crash leaves, where behind a known journal these lines are to be kept.
pub record IsSafe {D : Type 0} (may_leave : D → List ℕ → Type 0) (moment : D → ℕ) (left_since : D → ℕ → List ℕ → Type 0) (limits : LimitNumbers) (journal : Journal)
    (lines : List (List Event)) (old new : Seen) (disk disk' : D) (status : ℕ) : Type 0 where
  -- after the run every crash leaves all that was printed; where nothing was, perhaps what it might have left before the run
  pub printed : (bytes : List ℕ) → may_leave disk' bytes
      → HoldsPrinted limits journal lines old new bytes ⊎ ((new.out.taken ≡ old.out.taken) × HoldsSameAsOne limits (may_leave disk) bytes)
  -- at status 0 it leaves all lines
  pub done : status ≡ 0 → (bytes : List ℕ) → may_leave disk' bytes → IsJournal limits bytes (with_lines limits journal lines)
  -- inside the run a crash leaves what it might have left before it, or a front of what is to be kept
  pub inside : StaysWithin moment left_since disk disk' (λ bytes. HoldsSameAsOne limits (may_leave disk) bytes ⊎ HoldsSomeFront limits journal lines bytes)

-- What a crash leaves after a run of a line and inside it. A line that has no use for the journal leaves the disk alone.
pub record OutlastsCrashes {D : Type 0} (may_leave : D → List ℕ → Type 0) (moment : D → ℕ) (left_since : D → ℕ → List ℕ → Type 0) (line : Option Line)
    (limits : LimitNumbers) (old new : Seen) (disk disk' : D) (status : ℕ) : Type 0 where
  pub alone : uses_journal line ≡ false → disk' ≡ disk
  pub known : (journal : Journal) (input : List ℕ) (meaning : Meaning line) → uses_journal line ≡ true → TellsJournal limits old.disk.bytes journal
      → IsInput limits line old.input.left input meaning
      → IsSafe may_leave moment left_since limits journal (kept_of line limits journal input meaning) old new disk disk' status
