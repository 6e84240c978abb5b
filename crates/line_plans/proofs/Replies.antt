-- From how a file was opened, or an input read, to what a line may answer.
use Rattle.std.proofs.Common.{◌≡◌, ◌≤◌, ◌∙◌, inl, inr, ℕ, List, length, Option, Result, Ok, Err, IfOk, ap, refl, sym, subst}
use Rattle.std.specs.declared.alloc.AllocError.{AllocError}
use Rattle.ew_model.specs.declared.event.Event.{Event}
use Rattle.ew_model.specs.Bytes.{AreBytes}
use Rattle.ew_model.specs.Limits.{LimitNumbers}
use Rattle.ew_model.specs.Kept.{ReplicaState}
use Rattle.ew_model.specs.Edits.{Edit}
use Rattle.ew_model.specs.Scripts.{Numbered, IsScript}
use Rattle.command_table.specs.Possible.{MayOpen, MayEdit, MayReplyTo}
use Rattle.command_table.specs.Refusals.{Refusal}
use Rattle.command_table.specs.Scripts.{script}
use Rattle.command_table.specs.Table.{Text, edit, refuses, opened, refused, script_reply}
use Rattle.opened_files.specs.declared.reply.Reply as code
use Rattle.ew_outside.specs.Seen.{SourceSeen}
use Rattle.ew_outside.specs.declared.fault.Fault.{Fault}
use Rattle.ew_outside.specs.declared.fault.Fault.TheVariants as fault_is
use Rattle.opened_files.specs.Views.{FailedLoadsBy, ReadsNone, reply_status, reply_view}
use Rattle.ew_outside.specs.Counts.{RisesOnceAtMost}
use Rattle.line_plans.specs.Inputs.{MeetsEnd}
use Rattle.line_plans.specs.declared.input.Input.{Input}
use Rattle.line_plans.specs.declared.input.Input.TheVariants as input_is
use Rattle.line_plans.specs.Edits.{MayScript, edits_reply}
use Rattle.line_plans.specs.Sources.{Causes, KeepsInput, SourceCauses}

module _ (name : Text) (limits : LimitNumbers) where
  -- an edit of a file that is refused, or open
  pub refused_edits : (agent : Text) (why : Refusal) → MayOpen name limits (refused why) → MayReplyTo (edit name agent) limits (refuses why)
  refused_edits agent why may = (may.0, subst (λ o. MayEdit name agent limits o (refuses why)) may.1 refl, may.2)

  pub opened_edits : (agent : Text) (held : List Event) (result : Result code.Reply Fault) → MayOpen name limits (opened held) → IfOk result (λ p. MayEdit name agent limits (opened held) (reply_view p))
      → IfOk result (λ p. MayReplyTo (edit name agent) limits (reply_view p))
  opened_edits agent held (Ok p) may some = (may.0, subst (λ o. MayEdit name agent limits o (reply_view p)) may.1 some, may.2)
  opened_edits agent held (Err e) may some = tt

-- a script whose edits were tried
pub may_script : (name agent input : List ℕ) (r : ReplicaState) (items : List (Numbered Edit)) (result : Result code.Reply AllocError) → IsScript input items
    → IfOk result (λ p. reply_view p ≡ edits_reply name agent r items) → MayScript name agent r input result
may_script name agent input r items (Ok p) is told = (script items, is, told)
may_script name agent input r items (Err e) is told = tt

-- an input that isn't too long
pub may_edit : (name agent input given : List ℕ) (limits : LimitNumbers) (r : ReplicaState) (p : code.Reply) → r.limits ≡ limits → length input ≤ limits.input → AreBytes given → given ≡ input → MayScript name agent r given (Ok p)
    → MayEdit name agent limits (opened r.held) (reply_view p)
may_edit name agent input given limits r p same short bytes is some =
    let most : length given ≤ limits.input = subst (λ xs. length xs ≤ limits.input) (sym is) short in
    inr (given, some.0, most, some.1, some.2 ∙ ap (λ (l : LimitNumbers). script_reply name agent l r.held some.0) same, bytes)

-- ---- the input, where the file is open, and where a load failed

-- no reply is of a status of a file that is missing or bad
pub reads_open : (old new : SourceSeen) (result : Result code.Reply Fault) → IfOk result (λ p. reply_status p ≡ 3 → ⊥) → IfOk result (λ p. reply_status p ≡ 4 → ⊥) → ReadsNone old new result
reads_open old new (Ok p) found good = λ bad. elim bad [ inl three ↦ absurd (found three) | inr four ↦ absurd (good four) ]
reads_open old new (Err e) found good = tt

-- an end is met once at most
pub ends_once : (before now : ℕ) (result : Result Input Fault) → MeetsEnd before now result → RisesOnceAtMost before now
ends_once before now (Ok (input_is.Whole bytes)) met = inr met
ends_once before now (Ok input_is.TooLong) met = inl met
ends_once before now (Err e) met = inl met

pub keeps_same : (input : SourceSeen) (result : Result code.Reply Fault) → KeepsInput input input result
keeps_same input (Ok p) = tt
keeps_same input (Err fault_is.Shelf) = refl
keeps_same input (Err fault_is.Source) = tt
keeps_same input (Err fault_is.Sink) = tt
keeps_same input (Err fault_is.OutOfMemory) = tt

-- no load fails where the source alone is read
pub source_keeps : (old new : SourceSeen) (before now : ℕ) (result : Result code.Reply Fault) → SourceCauses before now result → KeepsInput old new result
source_keeps old new before now (Ok p) cause = tt
source_keeps old new before now (Err fault_is.Shelf) cause = absurd cause
source_keeps old new before now (Err fault_is.Source) cause = tt
source_keeps old new before now (Err fault_is.Sink) cause = absurd cause
source_keeps old new before now (Err fault_is.OutOfMemory) cause = tt

-- ---- the counts, where the file is open and the source alone is read from then on

pub causes_of_source : (before now source source' : ℕ) (result : Result code.Reply Fault) → now ≡ before → SourceCauses source source' result → Causes before now source source' result
causes_of_source before now source source' (Ok p) same cause = (same, cause)
causes_of_source before now source source' (Err fault_is.Shelf) same cause = absurd cause
causes_of_source before now source source' (Err fault_is.Source) same cause = (same, cause)
causes_of_source before now source source' (Err fault_is.Sink) same cause = absurd cause
causes_of_source before now source source' (Err fault_is.OutOfMemory) same cause = (same, cause)

pub failed_loads_of_source : (before now source source' : ℕ) (result : Result code.Reply Fault) → now ≡ before → SourceCauses source source' result → FailedLoadsBy before now result
failed_loads_of_source before now source source' (Ok p) same cause = same
failed_loads_of_source before now source source' (Err fault_is.Shelf) same cause = absurd cause
failed_loads_of_source before now source source' (Err fault_is.Source) same cause = same
failed_loads_of_source before now source source' (Err fault_is.Sink) same cause = absurd cause
failed_loads_of_source before now source source' (Err fault_is.OutOfMemory) same cause = same
