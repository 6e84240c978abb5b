-- What C is answered. `include/egw.h` names the numbers.
use Rattle.std.specs.Prelude.{ℕ, Option, None, Some, Result, Ok, Err}
use Rattle.std.specs.declared.alloc.AllocError.{AllocError}
use Rattle.document.specs.declared.fault.EditingFault.{EditingFault as DocumentEditing}
use Rattle.document.specs.declared.fault.EditingFault.TheVariants as document_editing
use Rattle.document.specs.declared.fault.OpeningFault.{OpeningFault}
use Rattle.document.specs.declared.fault.OpeningFault.TheVariants as opening
use Rattle.document.specs.declared.fault.TalkingFault.{TalkingFault}
use Rattle.document.specs.declared.fault.TalkingFault.TheVariants as talking
use Rattle.document.specs.declared.fault.UndoingFault.{UndoingFault as DocumentUndoing}
use Rattle.document.specs.declared.fault.UndoingFault.TheVariants as document_undoing
use Rattle.event_file.specs.declared.fault.FileFault.{FileFault}
use Rattle.event_file.specs.declared.fault.FileFault.TheVariants as file
use Rattle.ew_model.specs.declared.name.NameFault.{NameFault}
use Rattle.ew_model.specs.declared.name.NameFault.TheVariants as name
use Rattle.peer_definitions.specs.declared.end.End.{End}
use Rattle.peer_definitions.specs.declared.end.End.TheVariants as end
use Rattle.peer_frames.specs.declared.fault.FrameFault.{FrameFault}
use Rattle.peer_frames.specs.declared.fault.FrameFault.TheVariants as frame
use Rattle.replica.specs.declared.fault.EditFault.{EditFault}
use Rattle.replica.specs.declared.fault.EditFault.TheVariants as edit
use Rattle.replica.specs.declared.fault.LoadFault.{LoadFault}
use Rattle.replica.specs.declared.fault.LoadFault.TheVariants as load
use Rattle.egw_c.specs.declared.answer.Answer.{Answer}
use Rattle.egw_c.specs.declared.fault.EditingFault.{EditingFault}
use Rattle.egw_c.specs.declared.fault.EditingFault.TheVariants as editing
use Rattle.egw_c.specs.declared.fault.MarkingFault.{MarkingFault}
use Rattle.egw_c.specs.declared.fault.MarkingFault.TheVariants as marking
use Rattle.egw_c.specs.declared.fault.ReadingFault.{ReadingFault}
use Rattle.egw_c.specs.declared.fault.ReadingFault.TheVariants as reading
use Rattle.egw_c.specs.declared.fault.UndoingFault.{UndoingFault}
use Rattle.egw_c.specs.declared.fault.UndoingFault.TheVariants as undoing
use Rattle.undo.specs.declared.fault.UndoFault.{UndoFault}
use Rattle.undo.specs.declared.fault.UndoFault.TheVariants as undo

-- a status with a number that belongs to it
abbrev pub answer : ℕ → ℕ → Answer
answer status number = record { number = number; status = status }

-- all went well
abbrev pub done : ℕ → Answer
done number = answer 0 number

-- memory was wanting
abbrev pub no_memory : Answer
no_memory = answer 1 0

-- a number, but for want of memory
abbrev pub counted : Result ℕ AllocError → Answer
counted (Ok n) = done n
counted (Err e) = no_memory

-- what is wrong with a name
abbrev pub name_answer : NameFault → Answer
name_answer name.Empty = answer 6 0
name_answer name.TooLong = answer 7 0
name_answer (name.BadByte place) = answer 8 place

-- why an edit is refused
abbrev pub edit_answer : EditFault → Answer
edit_answer (edit.OutOfRange len) = answer 2 len
edit_answer (edit.TooManyHeads heads) = answer 3 heads
edit_answer (edit.Full count) = answer 4 count
edit_answer edit.OutOfMemory = no_memory

-- why a document refuses an edit
abbrev pub refused_edit : DocumentEditing → Answer
refused_edit document_editing.Awaited = answer 5 0
refused_edit (document_editing.Edit fault) = edit_answer fault

-- how an edit ended: how many events were made, or why none was
abbrev pub edited : Result ℕ EditingFault → Answer
edited (Ok n) = done n
edited (Err (editing.Name fault)) = name_answer fault
edited (Err (editing.Text good)) = answer 9 good
edited (Err (editing.Edit fault)) = refused_edit fault

-- what is wrong with a label
abbrev pub label_answer : NameFault → Answer
label_answer name.Empty = answer 28 0
label_answer name.TooLong = answer 29 0
label_answer (name.BadByte place) = answer 30 place

-- how a mark ended: how many events were made, or why none was
abbrev pub marked : Result ℕ MarkingFault → Answer
marked (Ok n) = done n
marked (Err (marking.Name fault)) = name_answer fault
marked (Err (marking.Label fault)) = label_answer fault
marked (Err (marking.Edit fault)) = refused_edit fault

-- why an undo is refused; of an event that isn't held, its number
abbrev pub undo_answer : UndoFault → Answer
undo_answer (undo.NoEvent id) = answer 11 id.seq
undo_answer (undo.TooManyHeads heads) = answer 3 heads
undo_answer (undo.Full count) = answer 4 count
undo_answer undo.OutOfMemory = no_memory

-- why a document refuses an undo
abbrev pub refused_undo : DocumentUndoing → Answer
refused_undo document_undoing.Awaited = answer 5 0
refused_undo (document_undoing.Undo fault) = undo_answer fault

-- how an undo ended: how many events were made, or why none was
abbrev pub undone : Result ℕ UndoingFault → Answer
undone (Ok n) = done n
undone (Err (undoing.Name fault)) = name_answer fault
undone (Err undoing.NoId) = answer 24 0
undone (Err undoing.OutOfMemory) = no_memory
undone (Err (undoing.Undo fault)) = refused_undo fault

-- why bytes are no event file
abbrev pub file_answer : FileFault → Answer
file_answer (file.Short len) = answer 12 len
file_answer file.BadMagic = answer 13 0
file_answer (file.BadVersion version) = answer 14 version
file_answer (file.BadDigest stored found) = answer 15 0
file_answer (file.BadRecord offset kind) = answer 16 offset
file_answer (file.TooMany count) = answer 17 count
file_answer file.OutOfMemory = no_memory

-- why events make no replica
abbrev pub load_answer : LoadFault → Answer
load_answer (load.BadEvent position verdict) = answer 18 position
load_answer load.OutOfMemory = no_memory

-- why bytes make no document
abbrev pub not_opened : OpeningFault → Answer
not_opened (opening.File fault) = file_answer fault
not_opened (opening.Load fault) = load_answer fault

-- how much was found, or why nothing was
abbrev pub found : Result ℕ ReadingFault → Answer
found (Ok n) = done n
found (Err (reading.OutOfRange len)) = answer 2 len
found (Err reading.NoVersion) = answer 10 0
found (Err (reading.Unknown place)) = answer 11 place
found (Err reading.NoCaret) = answer 26 0
found (Err reading.NoCharacter) = answer 27 0
found (Err reading.OutOfMemory) = no_memory

-- an index, or that there is none, but for want of memory
abbrev pub indexed : Result (Option ℕ) AllocError → Answer
indexed (Ok (Some at)) = done at
indexed (Ok None) = answer 31 0
indexed (Err e) = no_memory

-- why bytes are no frame
abbrev pub frame_answer : FrameFault → Answer
frame_answer (frame.TooLong len) = answer 19 len
frame_answer (frame.BadKind kind) = answer 20 kind
frame_answer frame.BadBody = answer 21 0
frame_answer frame.OutOfMemory = no_memory

-- how a session ended
abbrev pub end_answer : End → Answer
end_answer (end.Clash id) = answer 22 0
end_answer end.Bye = answer 23 0

-- how a peer's bytes were taken
abbrev pub talked : Result ℕ TalkingFault → Answer
talked (Ok n) = done n
talked (Err (talking.Frame fault)) = frame_answer fault
talked (Err (talking.Ended e)) = end_answer e
talked (Err talking.OutOfMemory) = no_memory
