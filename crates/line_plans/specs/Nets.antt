-- What the parts of the command `net` answer.
use Rattle.std.specs.Prelude.{◌≡◌, ⊤, ℕ, List, IsSomeAnd, IfOk, Result, Ok, Err}
use Rattle.std.specs.declared.alloc.AllocError.{AllocError}
use Rattle.ew_model.specs.Limits.{LimitNumbers}
use Rattle.command_table.specs.Scripts.{NetReading, MeansNet}
use Rattle.command_table.specs.Table.{net_refusal, net_reply, net_script_reply}
use Rattle.net_core.specs.declared.fault.NetFault.{NetFault}
use Rattle.net_core.specs.Answers.{refusal_told}
use Rattle.opened_files.specs.declared.reply.Reply as code
use Rattle.ew_outside.specs.declared.fault.Fault.{Fault}
use Rattle.opened_files.specs.Views.{reply_view}

-- the plan tells why the line is refused
abbrev pub StepRefuses : LimitNumbers → ℕ → NetFault → Result code.Reply AllocError → Type 0
StepRefuses limits line fault (Ok p) = IsSomeAnd (refusal_told fault) (λ why. reply_view p ≡ net_refusal limits line why)
StepRefuses limits line fault (Err _) = ⊤

-- the plan is the table's, whatever the input means
abbrev pub PlansNetScript : LimitNumbers → List ℕ → Result code.Reply AllocError → Type 0
PlansNetScript limits input planned = IfOk planned (λ p. (reading : NetReading) → MeansNet input reading → reply_view p ≡ net_script_reply limits reading)

-- the same of an input that may be too long
abbrev pub PlansNetInput : LimitNumbers → List ℕ → Result code.Reply Fault → Type 0
PlansNetInput limits input planned = IfOk planned (λ p. (reading : NetReading) → MeansNet input reading → reply_view p ≡ net_reply limits input reading)

-- the plan is the table's for a meaning of the input
abbrev pub MayNetScript : LimitNumbers → List ℕ → Result code.Reply AllocError → Type 0
MayNetScript limits input planned = IfOk planned (λ p. (reading : NetReading) × MeansNet input reading × (reply_view p ≡ net_script_reply limits reading))
