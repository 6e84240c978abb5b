-- How a document's calls end, told to C.
use Rattle.std.proofs.Common.{◌≡◌, ℕ, ◌+◌, ◌-◌, ◌≤◌, List, length, drop, Result, Ok, Err, IfOk, IfErr, OnOk, refl, ap, ◌∙◌, arith, inl, inr}
use Rattle.std.proofs.lemmas.List.{length-drop}
use Rattle.ew_model.specs.declared.event.Event.{Event}
use Rattle.ew_model.specs.declared.text_op.TextOp.{TextOp}
use Rattle.ew_model.specs.Edits.{Edit}
use Rattle.ew_model.specs.Edits.Edit.{Mark}
use Rattle.ew_model.specs.Kept.{ReplicaState}
use Rattle.ew_model.specs.Operations.{operations}
use Rattle.ew_model.proofs.TextLengths.{length_operations}
use Rattle.replica.specs.Answers.{EditsBy}
use Rattle.egw_c.specs.declared.fault.EditingFault.{EditingFault}
use Rattle.egw_c.specs.declared.fault.MarkingFault.{MarkingFault}
use Rattle.egw_c.specs.declared.fault.ReadingFault.{ReadingFault}
use Rattle.egw_c.specs.declared.fault.ReadingFault.TheVariants as reading
use Rattle.egw_c.specs.declared.fault.UndoingFault.{UndoingFault}
use Rattle.egw_c.specs.declared.answer.Answer.{Answer}
use Rattle.document.specs.Documents.{later_bytes}
use Rattle.egw_c.specs.Documents.{Shown, MayEdit, MayMark, Refuses, RefusesMark, RefusesUndo, UndoesFrom}
use Rattle.egw_c.specs.Reading.{RefusesAbove}
use Rattle.egw_c.specs.Exports.{EndsEdit, EndsMark, EndsUndo, TellsBytes, TellsChanges, TellsEdit, TellsMark, TellsUndo}
use Rattle.egw_c.specs.Statuses.{edited, found, marked, undone}

-- an edit ends so
edit_ends : (agent text : List ℕ) (e : Edit) (old new : Shown) (r : Result ℕ EditingFault) → OnOk r (MayEdit agent text old.replica) → IfOk r (λ n. EditsBy agent e old.replica new.replica (Ok n)) → IfErr r (Refuses agent text e old.replica) → EndsEdit agent text e old.replica r
edit_ends agent text e old new (Ok n) may edits refused = (may, edits.0, edits.2)
edit_ends agent text e old new (Err fault) may edits refused = refused

-- and is told so
pub edit_told : (agent text : List ℕ) (e : Edit) (old new : Shown) (r : Result ℕ EditingFault) (a : Answer) → OnOk r (MayEdit agent text old.replica) → IfOk r (λ n. EditsBy agent e old.replica new.replica (Ok n)) → IfErr r (Refuses agent text e old.replica) → a ≡ edited r → TellsEdit agent text e old.replica a
edit_told agent text e old new r a may edits refused told = record { ended = r; ends = edit_ends agent text e old new r may edits refused; told = told }

-- a mark ends so
mark_ends : (agent label : List ℕ) (old new : Shown) (r : Result ℕ MarkingFault) → OnOk r (MayMark agent label old.replica) → IfOk r (λ n. EditsBy agent (Mark label) old.replica new.replica (Ok n)) → IfErr r (RefusesMark agent label old.replica) → EndsMark agent label old.replica r
mark_ends agent label old new (Ok n) may edits refused = (may, edits.0, edits.2)
mark_ends agent label old new (Err fault) may edits refused = refused

-- and is told so
pub mark_told : (agent label : List ℕ) (old new : Shown) (r : Result ℕ MarkingFault) (a : Answer) → OnOk r (MayMark agent label old.replica) → IfOk r (λ n. EditsBy agent (Mark label) old.replica new.replica (Ok n)) → IfErr r (RefusesMark agent label old.replica) → a ≡ marked r → TellsMark agent label old.replica a
mark_told agent label old new r a may edits refused told = record { ended = r; ends = mark_ends agent label old new r may edits refused; told = told }

-- an undo ends so
undo_ends : (agent words : List ℕ) (count : ℕ) (old new : Shown) (r : Result ℕ UndoingFault) → IfOk r (UndoesFrom agent words count old.replica new.replica) → IfErr r (RefusesUndo agent words count old.replica) → EndsUndo agent words count old.replica r
undo_ends agent words count old new (Ok n) undoes refused = (undoes.first, undoes.may, undoes.undoes.0, undoes.undoes.2)
undo_ends agent words count old new (Err fault) undoes refused = refused

-- and is told so
pub undo_told : (agent words : List ℕ) (count : ℕ) (old new : Shown) (r : Result ℕ UndoingFault) (a : Answer) → IfOk r (UndoesFrom agent words count old.replica new.replica) → IfErr r (RefusesUndo agent words count old.replica) → a ≡ undone r → TellsUndo agent words count old.replica a
undo_told agent words count old new r a undoes refused told = record { ended = r; ends = undo_ends agent words count old new r undoes refused; told = told }

some_bytes : (Found : List ℕ → Type 0) (bytes : List ℕ) (r : Result ℕ ReadingFault) → IfOk r (λ n. Found bytes × (n ≡ length bytes)) → IfOk r (λ n. (bytes : List ℕ) × Found bytes × (n ≡ length bytes))
some_bytes Found bytes (Ok n) h = (bytes, h.0, h.1)
some_bytes Found bytes (Err fault) h = tt

-- bytes that are found are told so
pub bytes_told : (Found : List ℕ → Type 0) (Refused : ReadingFault → Type 0) (bytes : List ℕ) (r : Result ℕ ReadingFault) (a : Answer) → IfOk r (λ n. Found bytes × (n ≡ length bytes)) → IfErr r Refused → a ≡ found r → TellsBytes Found Refused a
bytes_told Found Refused bytes r a h refused told = record { ended = r; bytes = some_bytes Found bytes r h; refused = refused; told = told }

-- the frames of later events, which there are from a number on
pub later_found : (r : ReplicaState) (from : ℕ) (bytes : List ℕ) (ended : Result ℕ ReadingFault) → IfOk ended (λ n. (bytes ≡ later_bytes r from) × (n ≡ length bytes)) → OnOk ended (from ≤ length r.held)
    → IfOk ended (λ n. ((bytes ≡ later_bytes r from) × (from ≤ length r.held)) × (n ≡ length bytes))
later_found r from bytes (Ok n) h within = ((h.0, within), h.1)
later_found r from bytes (Err fault) h within = tt

-- how many changes there are from a number on
changes_count : (history : List Event) (from : ℕ) → from ≤ length history → length (drop from (operations history)) + from ≡ length history
changes_count history from within = omega (arith, within, length-drop from (operations history), length_operations history)

why_none : (count from : ℕ) (fault : ReadingFault) → RefusesAbove count from fault → TellsChanges count from (found (Err fault))
why_none count from (reading.OutOfRange len) h = inr (h.0, ap (λ n. found (Err (reading.OutOfRange n))) h.1)
why_none count from reading.NoVersion h = absurd h
why_none count from (reading.Unknown place) h = absurd h
why_none count from reading.NoCaret h = absurd h
why_none count from reading.NoCharacter h = absurd h
why_none count from reading.OutOfMemory h = inl (count - from, omega (arith, h), inr refl)

-- changes are told so
pub changes_told : (history : List Event) (from : ℕ) (changes : List TextOp) (r : Result ℕ ReadingFault) → IfOk r (λ n. (changes ≡ drop from (operations history)) × (n ≡ length changes)) → OnOk r (from ≤ length history) → IfErr r (RefusesAbove (length history) from) → TellsChanges (length history) from (found r)
changes_told history from changes (Ok n) h within refused = inl (n, ap (λ k. k + from) (h.1 ∙ ap length h.0) ∙ changes_count history from within, inl refl)
changes_told history from changes (Err fault) h within refused = why_none (length history) from fault refused
