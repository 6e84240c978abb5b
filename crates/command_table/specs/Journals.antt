-- The journal as a line finds it, what a watch and an export come to over it, and what is behind it then.
use Rattle.std.specs.Prelude.{◌≡◌, ℕ, List, [], ◌++◌, length, nat_lt, Option, None, Some, if◌then◌else◌}
use Rattle.ew_model.specs.declared.event.Event.{Event}
use Rattle.ew_model.specs.Limits.{LimitNumbers}
use Rattle.ew_model.specs.Edits.{EditRefusal}
use Rattle.ew_model.specs.Verdicts.{BadEvent, first_bad}
use Rattle.file_words.specs.FileRuns.{file2_of}
use Rattle.peer_definitions.specs.Batches.{AreBatches, journal_events}
use Rattle.command_table.specs.Loads.{File, missing}
use Rattle.command_table.specs.Refusals.{bad_batch, bad_journal_event, file_there, input_too_long, journal_too_many, unreadable}
use Rattle.command_table.specs.Scripts.{Reading, script, bad_line, Watched, watched_by, batches_of, told_of}
use Rattle.command_table.specs.Sessions.{Session, closed_by}
use Rattle.command_table.specs.Table.{Text, Reply, prints, stores, refuses, Opened, opened, refused, line_refusal}

-- a journal: its batches, and the bad place at which they end, if there is one
pub record Journal : Type 0 where
  pub batches : List (List Event)
  pub bad : Option ℕ

-- the bytes are this journal, where a batch may have so many bytes
abbrev pub IsJournal : LimitNumbers → List ℕ → Journal → Type 0
IsJournal limits bytes j = AreBatches limits.body bytes j.batches j.bad

-- a disk tells bytes that are this journal
abbrev pub TellsJournal : LimitNumbers → Option (List ℕ) → Journal → Type 0
TellsJournal limits told j = (bytes : List ℕ) × (told ≡ Some bytes) × IsJournal limits bytes j

-- open where no event is bad
abbrev pub judged_journal : List Event → Option BadEvent → Opened
judged_journal events None = opened events
judged_journal events (Some bad) = refused (bad_journal_event bad.position bad.verdict)

-- open where no place is bad and no event
abbrev pub ended_journal : List Event → Option ℕ → Opened
ended_journal events None = judged_journal events (first_bad events)
ended_journal events (Some place) = refused (bad_batch place)

-- the journal, opened: its events may be too many, else a place may be bad, else an event
abbrev pub open_journal : LimitNumbers → Journal → Opened
open_journal limits j =
    if nat_lt limits.events (length (journal_events j.batches)) then refused (journal_too_many limits.events)
    else ended_journal (journal_events j.batches) j.bad

-- what a watch comes to: its session, and the events of each line that is kept
pub record Watch : Type 0 where
  pub session : Session
  pub kept : List (List Event)

-- nothing is kept
abbrev pub keeps_nothing : Reply → Watch
keeps_nothing reply = record { session = closed_by reply; kept = [] }

-- what ends a watch: a line that is refused, or nothing
abbrev pub watch_end : LimitNumbers → Option (ℕ × EditRefusal) → Reply
watch_end limits None = prints []
watch_end limits (Some p) = line_refusal limits p.0 p.1

-- of each line that is kept it is told, and then the watch ends
abbrev pub kept_watch : LimitNumbers → Watched → Watch
kept_watch limits w = record { session = record { sent = told_of w.kept; closing = watch_end limits w.stopped }; kept = w.kept }

-- a script, over the journal's events
abbrev pub watch_script : Text → LimitNumbers → List Event → Reading → Watch
watch_script agent limits events (bad_line line) = keeps_nothing (refuses (unreadable line))
watch_script agent limits events (script edits) = kept_watch limits (watched_by limits agent events edits)

-- an input, which may be too long
abbrev pub watch_input : Text → LimitNumbers → List ℕ → Reading → List Event → Watch
watch_input agent limits input reading events =
    if nat_lt limits.input (length input) then keeps_nothing (refuses (input_too_long limits.input))
    else watch_script agent limits events reading

-- a watch over the journal as it was opened
abbrev pub watch_opened : Text → LimitNumbers → List ℕ → Reading → Opened → Watch
watch_opened agent limits input reading (opened events) = watch_input agent limits input reading events
watch_opened agent limits input reading (refused why) = keeps_nothing (refuses why)

-- a watch over a journal
abbrev pub watch : Text → LimitNumbers → Journal → List ℕ → Reading → Watch
watch agent limits j input reading = watch_opened agent limits input reading (open_journal limits j)

-- the journal's events are stored as a file, unless the file is there or the journal is refused
abbrev pub export_reply : Text → File → Opened → Reply
export_reply name missing (opened events) = stores [] name (file2_of events)
export_reply name missing (refused why) = refuses why
export_reply name found journal = refuses (file_there name)

-- a journal with these batches behind it
abbrev pub with_batches : Journal → List (List Event) → Journal
with_batches j batches = record { batches = j.batches ++ batches; bad = j.bad }

-- the journal behind which these lines are kept
abbrev pub with_lines : LimitNumbers → Journal → List (List Event) → Journal
with_lines limits j lines = with_batches j (batches_of limits lines)
