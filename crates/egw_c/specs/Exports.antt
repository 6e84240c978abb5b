-- What the calls from C answer. What they leave stands in the contracts of a document's calls: no clause can speak of what is behind a
-- pointer that is handed back.
use Rattle.std.specs.Prelude.{◌≡◌, ◌⊎◌, ℕ, ◌+◌, ◌<◌, List, Option, None, length, Result, Ok, Err, IfOk, IfErr}
use Rattle.std.specs.declared.alloc.AllocError.{AllocError}
use Rattle.ew_model.specs.declared.event.Event.{Event}
use Rattle.ew_model.specs.declared.id.Id.{Id}
use Rattle.ew_model.specs.Edits.{Edit, edit_refusal, events_of_edit}
use Rattle.ew_model.specs.Edits.Edit.{Mark}
use Rattle.ew_model.specs.Kept.{ReplicaState}
use Rattle.peer_frames.specs.Calls.{Kept}
use Rattle.rope.specs.declared.extents.Measure.{Measure}
use Rattle.rope.specs.Extents.{IsIndexBehind}
use Rattle.undo_definitions.specs.Undoing.{events_of_undo, undo_refusal}
use Rattle.undo_definitions.specs.Wanted.{ids_from}
use Rattle.egw_c.specs.declared.answer.Answer.{Answer}
use Rattle.egw_c.specs.declared.fault.EditingFault.{EditingFault}
use Rattle.egw_c.specs.declared.fault.MarkingFault.{MarkingFault}
use Rattle.document.specs.declared.fault.OpeningFault.{OpeningFault}
use Rattle.egw_c.specs.declared.fault.ReadingFault.{ReadingFault}
use Rattle.egw_c.specs.declared.fault.ReadingFault.TheVariants as reading
use Rattle.document.specs.declared.fault.TalkingFault.{TalkingFault}
use Rattle.egw_c.specs.declared.fault.UndoingFault.{UndoingFault}
use Rattle.egw_c.specs.Documents.{Shown, MayEdit, MayMark, MayUndo, Opens, Refuses, RefusesMark, RefusesUndo}
use Rattle.document.specs.Documents.{RefusesFile}
use Rattle.document.specs.Reading.{StandsBefore}
use Rattle.document.specs.Talks.{Receives}
use Rattle.egw_c.specs.Reading.{RefusesAbove, RefusesIndex, StandsAt}
use Rattle.egw_c.specs.Statuses.{done, no_memory, edited, found, indexed, marked, not_opened, talked, undone}

-- this number, but for want of memory
abbrev pub IsCount : ℕ → Answer → Type 0
IsCount n a = (a ≡ done n) ⊎ (a ≡ no_memory)

-- how many events an edit made, or the first reason against it
abbrev pub EndsEdit : List ℕ → List ℕ → Edit → ReplicaState → Result ℕ EditingFault → Type 0
EndsEdit agent text e r (Ok n) = MayEdit agent text r × (edit_refusal r.limits r.held agent e ≡ None) × (n ≡ length (events_of_edit r.held agent e))
EndsEdit agent text e r (Err fault) = Refuses agent text e r fault

-- an edit is told as it ended
pub record TellsEdit (agent text : List ℕ) (e : Edit) (r : ReplicaState) (a : Answer) : Type 0 where
  pub ended : Result ℕ EditingFault
  pub ends : EndsEdit agent text e r ended
  pub told : a ≡ edited ended

-- how many events a mark made, or the first reason against it
abbrev pub EndsMark : List ℕ → List ℕ → ReplicaState → Result ℕ MarkingFault → Type 0
EndsMark agent label r (Ok n) = MayMark agent label r × (edit_refusal r.limits r.held agent (Mark label) ≡ None) × (n ≡ length (events_of_edit r.held agent (Mark label)))
EndsMark agent label r (Err fault) = RefusesMark agent label r fault

-- a mark is told as it ended
pub record TellsMark (agent label : List ℕ) (r : ReplicaState) (a : Answer) : Type 0 where
  pub ended : Result ℕ MarkingFault
  pub ends : EndsMark agent label r ended
  pub told : a ≡ marked ended

-- how many events an undo made, or the first reason against it
abbrev pub EndsUndo : List ℕ → List ℕ → ℕ → ReplicaState → Result ℕ UndoingFault → Type 0
EndsUndo agent words count r (Ok n) =
    (first : Id) × MayUndo agent words first r × (undo_refusal r.limits r.held (ids_from first.agent first.seq count) ≡ None)
    × (n ≡ length (events_of_undo r.held agent (ids_from first.agent first.seq count)))
EndsUndo agent words count r (Err fault) = RefusesUndo agent words count r fault

-- an undo is told as it ended
pub record TellsUndo (agent words : List ℕ) (count : ℕ) (r : ReplicaState) (a : Answer) : Type 0 where
  pub ended : Result ℕ UndoingFault
  pub ends : EndsUndo agent words count r ended
  pub told : a ≡ undone ended

-- the document of a file, or why there is none
pub record TellsOpen (file : List ℕ) (a : Answer) : Type 0 where
  pub opens : a ≡ done 0 → (d : Shown) × Opens file d
  pub told : (a ≡ done 0) ⊎ (a ≡ no_memory) ⊎ ((fault : OpeningFault) × RefusesFile file fault × (a ≡ not_opened fault))

-- how many bytes such a call finds, or why it finds none
pub record TellsBytes (Found : List ℕ → Type 0) (Refused : ReadingFault → Type 0) (a : Answer) : Type 0 where
  pub ended : Result ℕ ReadingFault
  pub bytes : IfOk ended (λ n. (bytes : List ℕ) × Found bytes × (n ≡ length bytes))
  pub refused : IfErr ended Refused
  pub told : a ≡ found ended

-- at which index a caret is, or why at none
pub record TellsIndex (history : List Event) (words : List ℕ) (a : Answer) : Type 0 where
  pub ended : Result ℕ ReadingFault
  pub stands : IfOk ended (StandsAt history words)
  pub refused : IfErr ended (RefusesIndex history words)
  pub told : a ≡ found ended

-- how much of a measure stands before an index, or why nothing does
pub record TellsExtent (measure : Measure) (text : List ℕ) (at : ℕ) (a : Answer) : Type 0 where
  pub ended : Result ℕ ReadingFault
  pub before : IfOk ended (StandsBefore measure text at)
  pub refused : IfErr ended (RefusesAbove (length text) at)
  pub told : a ≡ found ended

-- the index before which just so much of a measure stands, or that there is none, but for want of memory
pub record TellsPlace (measure : Measure) (text : List ℕ) (much : ℕ) (a : Answer) : Type 0 where
  pub ended : Result (Option ℕ) AllocError
  pub behind : IfOk ended (IsIndexBehind measure text much)
  pub told : a ≡ indexed ended

-- how many events there are from a number on, but for want of memory; or how many there are, where it is above
abbrev pub TellsChanges : ℕ → ℕ → Answer → Type 0
TellsChanges count from a = ((n : ℕ) × (n + from ≡ count) × IsCount n a) ⊎ ((count < from) × (a ≡ found (Err (reading.OutOfRange count))))

-- what came of a peer's bytes
pub record TellsTalk (r : ReplicaState) (kept : Kept) (bytes : List ℕ) (a : Answer) : Type 0 where
  pub now : ReplicaState
  pub rest : List ℕ
  pub sent : List ℕ
  pub ended : Result ℕ TalkingFault
  pub receives : Receives kept.limits r now kept.bytes bytes rest sent ended
  pub told : a ≡ talked ended
