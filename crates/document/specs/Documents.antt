-- Documents of files, what is refused, and what is sent.
use Rattle.std.specs.Prelude.{◌≡◌, ◌⊎◌, ⊤, ℕ, ◌<◌, ◌≤◌, true, false, List, [], Option, None, drop}
use Rattle.event_file.specs.Faults.{IsFault}
use Rattle.ew_model.specs.declared.event.Event.{Event}
use Rattle.ew_model.specs.declared.id.Id.{Id}
use Rattle.ew_model.specs.Edits.{EditRefusal}
use Rattle.ew_model.specs.Kept.{ReplicaState, is_awaited}
use Rattle.ew_model.specs.Limits.{program_limits}
use Rattle.ew_model.specs.Verdicts.{first_bad}
use Rattle.file_words.specs.FileLaws.{IsFileOf}
use Rattle.file_words.specs.FileVersionLaws.{IsRunFileOf}
use Rattle.file_words.specs.FileVersions.{file_found}
use Rattle.peer_definitions.specs.Answering.{event_frames, question}
use Rattle.peer_definitions.specs.Spelling.{frame_bytes}
use Rattle.replica.specs.Answers.{TellsBad, refusal_of}
use Rattle.replica.specs.declared.fault.EditFault.{EditFault}
use Rattle.replica.specs.declared.fault.EditFault.TheVariants as edit
use Rattle.undo.specs.Answers as undo_answers
use Rattle.undo.specs.declared.fault.UndoFault.{UndoFault}
use Rattle.undo.specs.declared.fault.UndoFault.TheVariants as undo
use Rattle.undo_definitions.specs.Undoing.{UndoRefusal, undo_refusal}
use Rattle.document.specs.declared.fault.EditingFault.{EditingFault}
use Rattle.document.specs.declared.fault.EditingFault.TheVariants as editing
use Rattle.document.specs.declared.fault.OpeningFault.{OpeningFault}
use Rattle.document.specs.declared.fault.OpeningFault.TheVariants as opening
use Rattle.document.specs.declared.fault.RangeFault.{RangeFault}
use Rattle.document.specs.declared.fault.RangeFault.TheVariants as range
use Rattle.document.specs.declared.fault.UndoingFault.{UndoingFault}
use Rattle.document.specs.declared.fault.UndoingFault.TheVariants as undoing
use Rattle.document.specs.Talks.{spelled}

-- the bytes are a file of the events, each of which is good, and none waits
pub record Opens (file : List ℕ) (d : ReplicaState) : Type 0 where
  pub file_of : IsFileOf program_limits.events d.held file ⊎ IsRunFileOf program_limits.events d.held file
  pub good : first_bad d.held ≡ None
  pub fresh : d ≡ record { limits = program_limits; held = d.held; waiting = [] }

-- why bytes make no document: the first fault of a file, or the first bad event of the events that they are the file of; want of
-- memory says nothing
abbrev pub RefusesFile : List ℕ → OpeningFault → Type 0
RefusesFile file (opening.File fault) = IsFault fault (file_found program_limits.events file)
RefusesFile file (opening.Load fault) =
    (events : List Event) × (IsFileOf program_limits.events events file ⊎ IsRunFileOf program_limits.events events file) × TellsBad events fault

-- an edit is refused for this; for want of memory at any time
abbrev pub RefusesEdit : Option EditRefusal → EditFault → Type 0
RefusesEdit why edit.OutOfMemory = ⊤
RefusesEdit why fault = why ≡ refusal_of fault

-- the first reason against an edit by an agent: an event of the agent is awaited, or what the history says
abbrev pub Refuses : List ℕ → Option EditRefusal → ReplicaState → EditingFault → Type 0
Refuses agent why r editing.Awaited = is_awaited r.held r.waiting agent ≡ true
Refuses agent why r (editing.Edit fault) = (is_awaited r.held r.waiting agent ≡ false) × RefusesEdit why fault

-- an undo is refused for this; for want of memory at any time
abbrev pub UndoRefused : Option UndoRefusal → UndoFault → Type 0
UndoRefused why undo.OutOfMemory = ⊤
UndoRefused why fault = why ≡ undo_answers.refusal_of fault

-- the first reason against an undo of these events by an agent
abbrev pub RefusesUndo : List ℕ → List Id → ReplicaState → UndoingFault → Type 0
RefusesUndo agent undone r undoing.Awaited = is_awaited r.held r.waiting agent ≡ true
RefusesUndo agent undone r (undoing.Undo fault) = (is_awaited r.held r.waiting agent ≡ false) × UndoRefused (undo_refusal r.limits r.held undone) fault

-- why nothing is found at a number, where there are so many: it is above them; or, where it isn't, memory was wanting
abbrev pub RefusesAbove : ℕ → ℕ → RangeFault → Type 0
RefusesAbove count from (range.OutOfRange len) = (count < from) × (len ≡ count)
RefusesAbove count from range.OutOfMemory = from ≤ count

-- the bytes of the question for what isn't held
abbrev pub question_bytes : ReplicaState → List ℕ
question_bytes r = frame_bytes (question r)

-- the bytes of the frames of the events from a number on, each full but the last
abbrev pub later_bytes : ReplicaState → ℕ → List ℕ
later_bytes r from = spelled (event_frames r.limits (drop from r.held))
