-- What the calls of a replica answer.
use Rattle.std.specs.Prelude.{◌≡◌, ⊤, ℕ, List, [], ◌++◌, length, Option, Some, None, Result, Ok, Err}
use Rattle.ew_model.specs.declared.event.Event.{Event}
use Rattle.ew_model.specs.Limits.{LimitNumbers}
use Rattle.ew_model.specs.Kept.{ReplicaState}
use Rattle.ew_model.specs.Verdicts.{first_bad}
use Rattle.ew_model.specs.Answers.{ruling_of}
use Rattle.ew_model.specs.Edits.{Edit, EditRefusal, events_of_edit, edit_refusal}
use Rattle.ew_model.specs.Edits.EditRefusal.{OutOfRange, TooManyHeads, Full}
use Rattle.replica.specs.declared.fault.LoadFault.{LoadFault}
use Rattle.replica.specs.declared.fault.LoadFault.TheVariants as load
use Rattle.replica.specs.declared.fault.EditFault.{EditFault}
use Rattle.replica.specs.declared.fault.EditFault.TheVariants as edit

-- the fault tells the first event that isn't good behind those before it, and the verdict on it
abbrev pub TellsBad : List Event → LoadFault → Type 0
TellsBad events (load.BadEvent position verdict) = first_bad events ≡ Some (record { position = position; verdict = ruling_of verdict })
TellsBad events load.OutOfMemory = ⊤

-- a replica of the events and no waiting ones, where each event is good; else the first that isn't
abbrev pub Loads : List Event → LimitNumbers → Result ReplicaState LoadFault → Type 0
Loads events limits (Ok r) = (first_bad events ≡ None) × (r ≡ record { limits = limits; held = events; waiting = [] })
Loads events limits (Err fault) = TellsBad events fault

-- the events as a graph, where each is good; else the first that isn't
abbrev pub LoadsGraph : List Event → Result (List Event) LoadFault → Type 0
LoadsGraph events (Ok graph) = (first_bad events ≡ None) × (graph ≡ events)
LoadsGraph events (Err fault) = TellsBad events fault

-- why an edit is refused; none for want of memory
abbrev pub refusal_of : EditFault → Option EditRefusal
refusal_of (edit.OutOfRange len) = Some (OutOfRange len)
refusal_of (edit.TooManyHeads heads) = Some (TooManyHeads heads)
refusal_of (edit.Full count) = Some (Full count)
refusal_of edit.OutOfMemory = None

-- An edit by an agent: its events are held behind the others, where nothing speaks against it; else nothing is changed,
-- and the first reason is told, but for want of memory.
abbrev pub EditsBy : List ℕ → Edit → ReplicaState → ReplicaState → Result ℕ EditFault → Type 0
EditsBy agent e old new (Ok n) =
    (edit_refusal old.limits old.held agent e ≡ None)
    × (new ≡ record { limits = old.limits; held = old.held ++ events_of_edit old.held agent e; waiting = old.waiting })
    × (n ≡ length (events_of_edit old.held agent e))
EditsBy agent e old new (Err edit.OutOfMemory) = new ≡ old
EditsBy agent e old new (Err fault) = (edit_refusal old.limits old.held agent e ≡ refusal_of fault) × (new ≡ old)
