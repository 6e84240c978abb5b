-- What an input and the journal mean to a line, and what the line comes to.
use Rattle.std.specs.Prelude.{◌≡◌, ℕ, true, List, [], Option, None, Some, ⊤}
use Rattle.std.specs.FinMap.{get}
use Rattle.ew_model.specs.declared.event.Event.{Event}
use Rattle.ew_model.specs.Limits.{LimitNumbers}
use Rattle.ew_outside.specs.Files.{Files}
use Rattle.command_table.specs.Framings.{Framing, IsFramingOf}
use Rattle.command_table.specs.Journals.{Journal, TellsJournal, open_journal, watch, export_reply, with_lines}
use Rattle.command_table.specs.Loads.{whole_of}
use Rattle.command_table.specs.Refusals.{not_taken}
use Rattle.command_table.specs.Scripts.{Reading, Means}
use Rattle.command_table.specs.Sessions.{Session, closed_by, served, session_answer}
use Rattle.command_table.specs.Reads.{reads_input, uses_journal}
use Rattle.command_table.specs.Table.{Text, Line, does, serves, watches, exports, Answer, refuses, reply_to, line_of, ReadingOf, MeansTo}

-- Frames to a session, a net script to a net, and an edit script to every other line, though `edit` and `watch` alone read it. A script may be bad.
abbrev pub Meaning : Option Line → Type 0
Meaning None = Reading
Meaning (Some (does command)) = ReadingOf command
Meaning (Some (serves file)) = Framing
Meaning (Some (watches agent)) = Reading
Meaning (Some (exports file)) = Reading

-- the input means this to the line
abbrev pub IsMeant : LimitNumbers → (l : Option Line) → List ℕ → Meaning l → Type 0
IsMeant limits None input reading = Means input reading
IsMeant limits (Some (does command)) input reading = MeansTo command input reading
IsMeant limits (Some (serves file)) input f = IsFramingOf limits input f
IsMeant limits (Some (watches agent)) input reading = Means input reading
IsMeant limits (Some (exports file)) input reading = Means input reading

-- the input is known, and means this to the line; one that the line doesn't read may be any
abbrev pub IsInput : LimitNumbers → (l : Option Line) → Option (List ℕ) → List ℕ → Meaning l → Type 0
IsInput limits l left input meaning = reads_input l ≡ true → (left ≡ Some input) × IsMeant limits l input meaning

-- the journal is known; one that the line doesn't open may be any
abbrev pub IsJournalOf : LimitNumbers → Option Line → Option (List ℕ) → Journal → Type 0
IsJournalOf limits l told journal = uses_journal l ≡ true → TellsJournal limits told journal

-- what a line comes to, which may not be taken: a session, in which a command sends nothing before its end
abbrev pub session_of : (l : Option Line) → LimitNumbers → Files → Journal → List ℕ → Meaning l → Session
session_of None limits files journal input reading = closed_by (refuses not_taken)
session_of (Some (does command)) limits files journal input reading = closed_by (reply_to command limits files input reading)
session_of (Some (serves file)) limits files journal input f = served file limits files input f
session_of (Some (watches agent)) limits files journal input reading = (watch agent limits journal input reading).session
session_of (Some (exports file)) limits files journal input reading = closed_by (export_reply file (whole_of 0 (get files file)) (open_journal limits journal))

-- the events of each line of a script that go into the journal, which a watch alone has
abbrev pub kept_of : (l : Option Line) → LimitNumbers → Journal → List ℕ → Meaning l → List (List Event)
kept_of None limits journal input reading = []
kept_of (Some (does command)) limits journal input reading = []
kept_of (Some (serves file)) limits journal input f = []
kept_of (Some (watches agent)) limits journal input reading = (watch agent limits journal input reading).kept
kept_of (Some (exports file)) limits journal input reading = []

-- the table: what words answer, over files, a journal and an input, and what the input means
abbrev pub table : (words : List Text) → LimitNumbers → Files → Journal → List ℕ → Meaning (line_of words) → Answer
table words limits files journal input meaning = session_answer (session_of (line_of words) limits files journal input meaning) files

-- and the journal behind it
abbrev pub table_journal : (words : List Text) → LimitNumbers → Journal → List ℕ → Meaning (line_of words) → Journal
table_journal words limits journal input meaning = with_lines limits journal (kept_of (line_of words) limits journal input meaning)

-- it holds, unless the line serves a peer
abbrev pub UnlessServes : Option Line → Type 0 → Type 0
UnlessServes (Some (serves file)) holds = ⊤
UnlessServes line holds = holds

-- it holds, unless the line sends something before its end
abbrev pub UnlessSends : Option Line → Type 0 → Type 0
UnlessSends (Some (serves file)) holds = ⊤
UnlessSends (Some (watches agent)) holds = ⊤
UnlessSends line holds = holds
