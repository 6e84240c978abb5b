-- What an undo answers.
use Rattle.std.specs.Prelude.{◌≡◌, ℕ, List, ◌++◌, length, Option, Some, None, Result, Ok, Err}
use Rattle.ew_model.specs.declared.id.Id.{Id}
use Rattle.ew_model.specs.Kept.{ReplicaState}
use Rattle.replica.specs.declared.fault.EditFault.{EditFault}
use Rattle.replica.specs.declared.fault.EditFault.TheVariants as edit
use Rattle.undo.specs.declared.fault.UndoFault.{UndoFault}
use Rattle.undo.specs.declared.fault.UndoFault.TheVariants as fault
use Rattle.undo_definitions.specs.Undoing.{UndoRefusal, events_of_undo, undo_refusal}
use Rattle.undo_definitions.specs.Undoing.UndoRefusal.{NoEvent, TooManyHeads, Full}

-- why an undo is refused; none for want of memory
abbrev pub refusal_of : UndoFault → Option UndoRefusal
refusal_of (fault.NoEvent id) = Some (NoEvent id)
refusal_of (fault.TooManyHeads heads) = Some (TooManyHeads heads)
refusal_of (fault.Full count) = Some (Full count)
refusal_of fault.OutOfMemory = None

-- Events are undone by an agent: the events that this makes are held behind the others, where nothing speaks against it; else nothing
-- is changed, and the first reason is told, but for want of memory.
abbrev pub Undoes : List ℕ → List Id → ReplicaState → ReplicaState → Result ℕ UndoFault → Type 0
Undoes agent undone old new (Ok n) =
    (undo_refusal old.limits old.held undone ≡ None)
    × (new ≡ record { limits = old.limits; held = old.held ++ events_of_undo old.held agent undone; waiting = old.waiting })
    × (n ≡ length (events_of_undo old.held agent undone))
Undoes agent undone old new (Err fault.OutOfMemory) = new ≡ old
Undoes agent undone old new (Err told) = (undo_refusal old.limits old.held undone ≡ refusal_of told) × (new ≡ old)

-- the fault of an undo where that of its operations is this one; they are never out of range
abbrev pub fault_behind : EditFault → Option UndoFault
fault_behind (edit.OutOfRange len) = None
fault_behind (edit.TooManyHeads heads) = Some (fault.TooManyHeads heads)
fault_behind (edit.Full count) = Some (fault.Full count)
fault_behind edit.OutOfMemory = Some fault.OutOfMemory
