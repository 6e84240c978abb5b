-- What is told of a making that stopped.
use Rattle.std.specs.Prelude.{◌≡◌, ⊤, Result, Ok, Err}
use Rattle.std.specs.Option.{IsSomeAnd}
use Rattle.ew_model.specs.Limits.{LimitNumbers}
use Rattle.replica.specs.Answers.{refusal_of}
use Rattle.replica.specs.declared.fault.EditFault.{EditFault}
use Rattle.command_table.specs.Table.{stop_reply}
use Rattle.opened_files.specs.declared.reply.Reply as code
use Rattle.opened_files.specs.Views.{reply_view}

-- the plan tells why the fault's edit was refused
abbrev pub TellsStopped : {E : Type 0} → LimitNumbers → EditFault → Result code.Reply E → Type 0
TellsStopped limits fault (Ok p) = IsSomeAnd (refusal_of fault) (λ why. reply_view p ≡ stop_reply limits why)
TellsStopped limits fault (Err e) = ⊤
