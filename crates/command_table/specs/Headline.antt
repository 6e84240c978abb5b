-- What a run of a command line is, seen from its objects before and after. The last definition here is the sentence that the program
-- is proved against: a run answers what the command table says, leaves no more than is said here after a fault, makes no more loads than
-- its line has files, stores only what its reply stores, keeps in the journal only what its line keeps, and takes input only where its line
-- reads it.
use Rattle.std.specs.Prelude.{◌≡◌, ◌≤◌, ◌<◌, ◌+◌, ◌⊎◌, ⊤, ℕ, true, false, List, [], length, drop, Option, None, Some}
use Rattle.std.specs.List.{list_any}
use Rattle.ew_model.specs.declared.event.Event.{Event}
use Rattle.ew_model.specs.Limits.{LimitNumbers}
use Rattle.ew_outside.specs.Bytes.{IsFlushed}
use Rattle.ew_outside.specs.Counts.{AsksAtMost, IsQuiet, Rose, RisesOnceAtMost, next}
use Rattle.ew_outside.specs.Files.{Files}
use Rattle.command_table.specs.Framings.{Framing, IsFramingOf}
use Rattle.command_table.specs.Journals.{Journal}
use Rattle.command_table.specs.Kept.{Journals}
use Rattle.command_table.specs.Lines.{Meaning, IsInput, IsJournalOf, session_of, UnlessServes, UnlessSends}
use Rattle.command_table.specs.Outcomes.{IsServed, IsSession, StoresFirst}
use Rattle.command_table.specs.Possible.{MayComeTo}
use Rattle.command_table.specs.Reads.{shape_of, reads_input, needs_file, may_store, makes_file, most_asked, loads_of_all, CountsLoads, LoadsFront, TakesAtMost, LeavesInput, IfFileRefused}
use Rattle.command_table.specs.Seen.{Seen, Object, shelf, disk, source, sink, faults_of, failed_text, TellsErr}
use Rattle.command_table.specs.Sessions.{Session, is_bye, RepliesTo, IsPrompt}
use Rattle.command_table.specs.Table.{Text, Line, serves, line_of, opened, open_file}
use Rattle.command_table.specs.Cli.{usage as usage_text}
use Rattle.command_table.specs.Text.{out_of_memory}

-- the statuses of runs: 0, and 2 to 8
abbrev pub IsStatus : ℕ → Type 0
IsStatus n = (n ≡ 0) ⊎ ((2 ≤ n) × (n ≤ 8))

-- What a run answers.
pub record Answers (line : Option Line) (limits : LimitNumbers) (old new : Seen) (status : ℕ) : Type 0 where
  -- over files that are known, a journal that is known or isn't opened, and an input that is known or isn't read, it is the session of the table
  pub known : (files : Files) (journal : Journal) (input : List ℕ) (meaning : Meaning line) → old.shelf.files ≡ Some files → IsJournalOf limits line old.disk.bytes journal
      → IsInput limits line old.input.left input meaning
      → let s = session_of line limits files journal input meaning in
      IsServed s files old new status × UnlessSends line (StoresFirst s files old new status)
  -- whatever is known of them, it is a session that the line comes to over some files, some journal and some input
  pub some : (s : Session) × MayComeTo line limits s × IsSession s old new status
  pub among : IsStatus status
  -- the words alone decide on the usage
  pub usage : status ≡ 2 → (line ≡ None) × TellsErr old new usage_text
  pub only_usage : line ≡ None → (status ≡ 2) ⊎ (status ≡ 8)
  -- at status 0 all that was taken is flushed
  pub flushed : status ≡ 0 → IsFlushed new.out.taken new.out.flushed
  -- and at every other status the message is, where the error output didn't fail
  pub told : (status ≡ 0 → ⊥) → IsQuiet old.err.faults new.err.faults → IsFlushed new.err.taken new.err.flushed
  -- the error output is left alone at status 0
  pub silent : status ≡ 0 → (new.err.taken ≡ old.err.taken) × (new.err.faults ≡ old.err.faults)

-- nothing was stored, whatever is known of the shelf; and nothing printed, unless the line sends something before its end
abbrev pub StoresNothing : Option Line → Seen → Seen → Type 0
StoresNothing line old new = (new.shelf.files ≡ old.shelf.files) × (new.shelf.stores ≡ old.shelf.stores) × UnlessSends line (new.out.taken ≡ old.out.taken)

-- How far a run came that met a fault of an object. A failed load leaves files, output, input and disk as they were, and no store is made. A
-- failed read stores nothing, and prints nothing unless a peer is served. A failed store is the only one, and prints nothing; of a session
-- `FailsToStore` says it. A disk that failed stores nothing; what it leaves of the journal, `Keeps` says.
abbrev pub FaultLeaves : Option Line → Object → Seen → Seen → Type 0
FaultLeaves line shelf old new =
    (Rose old.shelf.failed_loads new.shelf.failed_loads × (new.shelf.files ≡ old.shelf.files) × (new.shelf.stores ≡ old.shelf.stores) × (new.out.taken ≡ old.out.taken) × LeavesInput old.input new.input × (new.disk ≡ old.disk))
    ⊎ ((new.shelf.failed_loads ≡ old.shelf.failed_loads) × (new.shelf.stores ≡ next old.shelf.stores) × UnlessSends line (new.out.taken ≡ old.out.taken))
FaultLeaves line disk old new = (new.shelf.failed_loads ≡ old.shelf.failed_loads) × StoresNothing line old new
FaultLeaves line source old new = (new.shelf.failed_loads ≡ old.shelf.failed_loads) × StoresNothing line old new × UnlessServes line (new.out.taken ≡ old.out.taken)
FaultLeaves line sink old new = new.shelf.failed_loads ≡ old.shelf.failed_loads

-- an object failed, and the text names it
pub record NamesFault (line : Option Line) (old new : Seen) : Type 0 where
  pub object : Object
  pub rose : Rose (faults_of object old) (faults_of object new)
  -- no other object failed
  pub others : (other : Object) → (other ≡ object → ⊥) → faults_of other new ≡ faults_of other old
  pub leaves : FaultLeaves line object old new
  pub text : TellsErr old new (failed_text object)

-- What a run leaves that met a fault, or was out of memory, or was refused.
pub record Leaves (line : Option Line) (old new : Seen) (status : ℕ) : Type 0 where
  -- a fault is never told without a cause, and always where there is one
  pub fault : status ≡ 6 → NamesFault line old new
  pub always : (object : Object) → faults_of object old < faults_of object new → status ≡ 6
  pub later : (object : Object) → faults_of object old ≤ faults_of object new
  -- where memory ran out, the text says so
  pub memory : status ≡ 8 → StoresNothing line old new × TellsErr old new out_of_memory
  -- at a status other than 0 and 6 nothing is stored, nor printed unless by a session
  pub nothing : (status ≡ 0 → ⊥) → (status ≡ 6 → ⊥) → StoresNothing line old new
  -- and a line that only reads never stores
  pub kept : may_store line ≡ false → new.shelf.stores ≡ old.shelf.stores

-- nothing but the end of the input ends the reading of it
abbrev pub ReadsToEnd : Option Line → LimitNumbers → List ℕ → Type 0
ReadsToEnd (Some (serves file)) limits input = (f : Framing) × IsFramingOf limits input f × (list_any is_bye f.frames ≡ false)
ReadsToEnd line limits input = reads_input line ≡ true

-- What a session reads of its peer.
pub record Hears (file : Text) (limits : LimitNumbers) (old new : Seen) (status : ℕ) : Type 0 where
  -- where the source alone failed, each frame that was read whole was answered
  pub replies : (files : Files) (events : List Event) (input : List ℕ) (n : ℕ) → old.shelf.files ≡ Some files → open_file file limits files ≡ opened events
      → old.input.left ≡ Some input → new.input.left ≡ Some (drop n input) → n ≤ length input → old.input.faults < new.input.faults
      → RepliesTo limits events input n old.out.taken new.out.taken new.out.flushed
  -- and at most a piece is read after frames that were answered
  pub prompt : (files : Files) (events : List Event) (input : List ℕ) → old.shelf.files ≡ Some files → open_file file limits files ≡ opened events
      → old.input.left ≡ Some input → IsPrompt limits events input new.input.left old.out.taken new.out.taken
  -- no byte after the limit is taken at status 0 or 5
  pub within : (status ≡ 0) ⊎ (status ≡ 5) → TakesAtMost limits.input old.input.left new.input.left

-- of a line that serves a peer: what is read of the peer
abbrev pub IfServes : Option Line → LimitNumbers → Seen → Seen → ℕ → Type 0
IfServes (Some (serves file)) limits old new status = Hears file limits old new status
IfServes line limits old new status = ⊤

-- What a run reads and loads.
pub record Reads (line : Option Line) (limits : LimitNumbers) (old new : Seen) (status : ℕ) : Type 0 where
  -- status 3 comes of a load that found nothing, where the line needs its files
  pub missing : needs_file line ≡ true → status ≡ 3 → Rose old.shelf.misses new.shelf.misses
  -- and at the others, but 6 and 8, no load found nothing
  pub found : needs_file line ≡ true → (status ≡ 3 → ⊥) → (status ≡ 6 → ⊥) → (status ≡ 8 → ⊥) → new.shelf.misses ≡ old.shelf.misses
  -- where a line is to make its file, status 3 comes only where no load found nothing, and status 0 only where one did
  pub there : makes_file line ≡ true → status ≡ 3 → new.shelf.misses ≡ old.shelf.misses
  pub absent : makes_file line ≡ true → status ≡ 0 → Rose old.shelf.misses new.shelf.misses
  -- never more loads than the line has files, and as many as it has up to the first that is refused
  pub front : LoadsFront (shape_of line).files old.shelf.loads new.shelf.loads
  pub loads : (status ≡ 6 → ⊥) → (status ≡ 8 → ⊥) → CountsLoads (shape_of line).files limits old.shelf.files old.shelf.loads new.shelf.loads
  -- at status 0, and where something failed that is no load, all loads were made
  pub loaded : (status ≡ 0) ⊎ ((status ≡ 6) × IsQuiet old.shelf.failed_loads new.shelf.failed_loads) → new.shelf.loads ≡ loads_of_all (shape_of line).files old.shelf.loads
  -- and no load asks for more bytes than a file may have, nor for any of a file that is to be made
  pub asked : AsksAtMost (most_asked line limits) old.shelf.asked new.shelf.asked
  -- at status 0 the input is read to its end, if nothing else ends the reading; a line that doesn't read it leaves it
  pub read : status ≡ 0 → (input : List ℕ) → old.input.left ≡ Some input → ReadsToEnd line limits input → new.input.left ≡ Some []
  pub unread : reads_input line ≡ false → LeavesInput old.input new.input
  -- and an end is believed: no more than one read meets it
  pub ends : RisesOnceAtMost old.input.ends new.input.ends
  -- no more than one byte after the limit is taken
  pub few : TakesAtMost (limits.input + 1) old.input.left new.input.left
  -- and none where the file is refused; whatever is known of the shelf, none where it is missing or bad
  pub untouched : (files : Files) → old.shelf.files ≡ Some files → IfFileRefused (shape_of line) limits files (LeavesInput old.input new.input)
  pub refused : needs_file line ≡ true → (status ≡ 3) ⊎ (status ≡ 4) → LeavesInput old.input new.input
  pub hears : IfServes line limits old new status

-- A run of a line, which may not be taken.
pub record IsRunOf (line : Option Line) (limits : LimitNumbers) (old new : Seen) (status : ℕ) : Type 0 where
  pub answers : Answers line limits old new status
  pub leaves : Leaves line old new status
  pub reads : Reads line limits old new status
  pub journals : Journals line limits old new status

-- A run of a command line.
abbrev pub IsRun : List Text → LimitNumbers → Seen → Seen → ℕ → Type 0
IsRun words limits old new status = IsRunOf (line_of words) limits old new status
