-- What watching and exporting promise.
use Rattle.std.specs.Prelude.{◌≡◌, ℕ, List, [], None, Some}
use Rattle.std.specs.FinMap.{get}
use Rattle.ew_model.specs.declared.event.Event.{Event}
use Rattle.ew_model.specs.Limits.{LimitNumbers, AreLimits}
use Rattle.ew_model.specs.Edits.{Edit}
use Rattle.ew_model.specs.Scripts.{Numbered}
use Rattle.file_words.specs.FileRuns.{file2_of}
use Rattle.ew_outside.specs.Files.{Files}
use Rattle.peer_definitions.specs.Batches.{journal_events}
use Rattle.command_table.specs.Journals.{Journal, IsJournal, open_journal, with_lines}
use Rattle.command_table.specs.Lines.{session_of, kept_of}
use Rattle.command_table.specs.Scripts.{Reading, script, ran, edited_by}
use Rattle.command_table.specs.Sessions.{session_answer}
use Rattle.command_table.specs.Table.{Text, Answer, watches, exports, opened, open_file}

-- what a watch answers
abbrev pub watch_answer : Text → LimitNumbers → Files → Journal → List ℕ → Reading → Answer
watch_answer agent limits files journal input reading = session_answer (session_of (Some (watches agent)) limits files journal input reading) files

-- the journal behind it
abbrev pub watched_journal : Text → LimitNumbers → Journal → List ℕ → Reading → Journal
watched_journal agent limits journal input reading = with_lines limits journal (kept_of (Some (watches agent)) limits journal input reading)

-- what an export answers
abbrev pub export_answer : Text → LimitNumbers → Files → Journal → List ℕ → Reading → Answer
export_answer name limits files journal input reading = session_answer (session_of (Some (exports name)) limits files journal input reading) files

-- Where a watch is done, the journal holds behind it the events that `edit` makes of the same script, behind those from before.
abbrev pub WatchesEdit : Type 0
WatchesEdit = (limits : LimitNumbers) (files : Files) (journal : Journal) (input : List ℕ) (edits : List (Numbered Edit)) (agent : Text) (events : List Event)
    → AreLimits limits → open_journal limits journal ≡ opened events
    → (watch_answer agent limits files journal input (script edits)).status ≡ 0
    → edited_by limits agent events edits ≡ ran (journal_events (watched_journal agent limits journal input (script edits)).batches)

-- the file wasn't there; it holds the journal's events, and opens as them; files of other names stay
pub record IsExported (limits : LimitNumbers) (files : Files) (name : Text) (there : Answer) (events : List Event) : Type 0 where
  pub was : get files name ≡ None
  pub silent : there.out ≡ []
  pub is : get there.files name ≡ Some (file2_of events)
  pub opens : open_file name limits there.files ≡ opened events
  pub others : (other : Text) → (other ≡ name → ⊥) → get there.files other ≡ get files other

-- Where an export is done of a journal that bytes are, its file opens as the journal's events.
abbrev pub ExportsOpen : Type 0
ExportsOpen = (limits : LimitNumbers) (files : Files) (journal : Journal) (bytes : List ℕ) (input : List ℕ) (reading : Reading) (name : Text)
    → AreLimits limits → IsJournal limits bytes journal
    → let there = export_answer name limits files journal input reading in
    there.status ≡ 0
    → IsExported limits files name there (journal_events journal.batches)
