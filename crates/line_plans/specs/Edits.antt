-- What the parts of the command `edit` answer.
use Rattle.std.specs.Prelude.{◌≡◌, ⊤, ℕ, List, length, Option, None, Some, IsSomeAnd, Result, Ok, Err}
use Rattle.std.specs.declared.alloc.AllocError.{AllocError}
use Rattle.ew_model.specs.Limits.{LimitNumbers}
use Rattle.ew_model.specs.Kept.{ReplicaState}
use Rattle.ew_model.specs.Edits.{Edit, EditRefusal}
use Rattle.ew_model.specs.Scripts.{Numbered}
use Rattle.replica.specs.declared.fault.EditFault.{EditFault}
use Rattle.replica.specs.Answers.{refusal_of}
use Rattle.opened_files.specs.declared.reply.Reply as code
use Rattle.ew_outside.specs.declared.fault.Fault.{Fault}
use Rattle.command_table.specs.Scripts.{Reading, Means, ran, stopped_at, edited_by}
use Rattle.command_table.specs.Table.{Reply, edited_reply, input_reply, line_refusal, script_reply}
use Rattle.opened_files.specs.Views.{reply_view}

-- the plan tells why the line is refused
abbrev pub LineRefuses : LimitNumbers → ℕ → EditFault → Result code.Reply AllocError → Type 0
LineRefuses limits line fault (Ok p) = IsSomeAnd (refusal_of fault) (λ why. reply_view p ≡ line_refusal limits line why)
LineRefuses limits line fault (Err _) = ⊤

-- all edits were done, or the plan tells which line was refused, and why
abbrev pub EditsTo : List ℕ → List (Numbered Edit) → ReplicaState → ReplicaState → Result (Option code.Reply) AllocError → Type 0
EditsTo agent items old new (Ok None) = edited_by old.limits agent old.held items ≡ ran new.held
EditsTo agent items old new (Ok (Some p)) =
    (line : ℕ) × (why : EditRefusal) × (edited_by old.limits agent old.held items ≡ stopped_at line why) × (reply_view p ≡ line_refusal old.limits line why)
EditsTo agent items old new (Err _) = ⊤

-- what comes of an agent's edits of what a replica holds
abbrev pub edits_reply : List ℕ → List ℕ → ReplicaState → List (Numbered Edit) → Reply
edits_reply name agent r items = edited_reply name r.limits (length r.held) (edited_by r.limits agent r.held items)

-- the plan is the table's, whatever the input means
abbrev pub PlansScript : List ℕ → List ℕ → ReplicaState → List ℕ → Result code.Reply AllocError → Type 0
PlansScript name agent r input (Ok p) = (reading : Reading) → Means input reading → reply_view p ≡ script_reply name agent r.limits r.held reading
PlansScript name agent r input (Err _) = ⊤

-- the same of an input that may be too long
abbrev pub PlansInput : List ℕ → List ℕ → ReplicaState → List ℕ → Result code.Reply Fault → Type 0
PlansInput name agent r input (Ok p) = (reading : Reading) → Means input reading → reply_view p ≡ input_reply name agent r.limits input reading r.held
PlansInput name agent r input (Err _) = ⊤

-- the plan is the table's for a meaning of the input
abbrev pub MayScript : List ℕ → List ℕ → ReplicaState → List ℕ → Result code.Reply AllocError → Type 0
MayScript name agent r input (Ok p) = (reading : Reading) × Means input reading × (reply_view p ≡ script_reply name agent r.limits r.held reading)
MayScript name agent r input (Err _) = ⊤
