-- What the parts of the command `undo` answer.
use Rattle.std.specs.Prelude.{◌≡◌, ⊤, List, ℕ, IsSomeAnd, Some, Result, Ok, Err}
use Rattle.std.specs.declared.alloc.AllocError.{AllocError}
use Rattle.ew_model.specs.declared.id.Id.{Id}
use Rattle.ew_model.specs.declared.event.Event.{Event}
use Rattle.ew_model.specs.Limits.{LimitNumbers}
use Rattle.undo.specs.declared.fault.UndoFault.{UndoFault}
use Rattle.undo.specs.declared.undone.Undone.{Undone}
use Rattle.undo.specs.Answers.{refusal_of}
use Rattle.command_table.specs.Table.{undone_reply}
use Rattle.opened_files.specs.declared.reply.Reply as code
use Rattle.opened_files.specs.Views.{reply_view}

-- the first of the events that are to be undone
abbrev pub first_id : Undone → Id
first_id u = record { agent = u.agent; seq = u.first }

-- the plan tells why events aren't undone, whatever they are
abbrev pub UndoRefuses : LimitNumbers → UndoFault → Result code.Reply AllocError → Type 0
UndoRefuses limits fault (Ok p) = IsSomeAnd (refusal_of fault) (λ why. (name agent : List ℕ) (events : List Event) (undone : List Id) → reply_view p ≡ undone_reply name agent limits events undone (Some why))
UndoRefuses limits fault (Err _) = ⊤
