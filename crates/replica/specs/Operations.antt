-- What a replica answers to operations that an agent does in a row.
use Rattle.std.specs.Prelude.{◌≡◌, ℕ, List, [], ◌∷◌, ◌++◌, length, if◌then◌else◌, Option, Some, None, Result, Ok, Err}
use Rattle.ew_model.specs.declared.event.Op.{Op}
use Rattle.ew_model.specs.declared.event.Event.{Event}
use Rattle.ew_model.specs.Ancestors.{heads}
use Rattle.ew_model.specs.Edits.{EditRefusal, events_of_ops}
use Rattle.ew_model.specs.Edits.EditRefusal.{OutOfRange}
use Rattle.ew_model.specs.Kept.{ReplicaState}
use Rattle.ew_model.specs.Limits.{LimitNumbers}
use Rattle.ew_model.specs.Operations.{changed_by}
use Rattle.ew_model.specs.TextLaws.{own_change}
use Rattle.ew_model.specs.Texts.{text_of}
use Rattle.ew_model.specs.Verdicts.{is_outside}
use Rattle.replica.specs.declared.fault.EditFault.{EditFault}
use Rattle.replica.specs.declared.fault.EditFault.TheVariants as edit
use Rattle.replica.specs.Answers.{refusal_of}
use Rattle.replica.specs.Refusing.{refusal_to_make}

-- each operation is done to the text that those before it leave: how long that text is at the first one that is out of range in it
abbrev pub first_outside : List ℕ → List Op → Option ℕ
first_outside text [] = None
first_outside text (op ∷ ops) = if is_outside (length text) op then Some (length text) else first_outside (changed_by (own_change op) text) ops

-- an operation out of range comes before all else
abbrev pub outside_first : Option ℕ → Option EditRefusal → Option EditRefusal
outside_first None refusal = refusal
outside_first (Some len) refusal = Some (OutOfRange len)

-- why operations are refused, the first reason that holds; the heads and the limit count only where there is something to make
abbrev pub ops_refusal : LimitNumbers → List Event → List Op → Option EditRefusal
ops_refusal limits history ops =
    outside_first (first_outside (text_of history) ops) (refusal_to_make (length (heads history)) (length history) limits.events (length ops))

-- Operations by an agent: their events are held behind the others, where nothing speaks against it; else nothing is changed, and the
-- first reason is told, but for want of memory.
abbrev pub DoesAll : List ℕ → List Op → ReplicaState → ReplicaState → Result ℕ EditFault → Type 0
DoesAll agent ops old new (Ok n) =
    (ops_refusal old.limits old.held ops ≡ None)
    × (new ≡ record { limits = old.limits; held = old.held ++ events_of_ops old.held agent ops; waiting = old.waiting })
    × (n ≡ length ops)
DoesAll agent ops old new (Err edit.OutOfMemory) = new ≡ old
DoesAll agent ops old new (Err fault) = (ops_refusal old.limits old.held ops ≡ refusal_of fault) × (new ≡ old)
