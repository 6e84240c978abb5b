-- Why events aren't undone, as the table tells it.
use Rattle.std.proofs.Common.{◌≡◌, ℕ, List, Result, Ok, Err, IfOk, sym, ap, ◌∙◌}
use Rattle.std.specs.declared.alloc.AllocError.{AllocError}
use Rattle.ew_model.specs.declared.id.Id.{Id}
use Rattle.ew_model.specs.Kept.{ReplicaState}
use Rattle.undo.specs.declared.fault.UndoFault.{UndoFault}
use Rattle.undo.specs.declared.fault.UndoFault.TheVariants.{NoEvent, TooManyHeads, Full, OutOfMemory}
use Rattle.undo.specs.Answers.{Undoes}
use Rattle.undo_definitions.specs.Undoing.{undo_refusal}
use Rattle.command_table.specs.Table.{undone_reply}
use Rattle.opened_files.specs.declared.reply.Reply as code
use Rattle.opened_files.specs.Views.{reply_view}
use Rattle.line_plans.specs.Undos.{UndoRefuses}

-- the plan that tells the fault is the table's reply
pub refused_so : (name agent : List ℕ) (old new : ReplicaState) (undone : List Id) (fault : UndoFault) (result : Result code.Reply AllocError) → Undoes agent undone old new (Err fault) → UndoRefuses old.limits fault result
    → IfOk result (λ p. reply_view p ≡ undone_reply name agent old.limits old.held undone (undo_refusal old.limits old.held undone))
refused_so name agent old new undone fault (Err e) undoes told = tt
refused_so name agent old new undone (NoEvent id) (Ok p) undoes told = told name agent old.held undone ∙ ap (undone_reply name agent old.limits old.held undone) (sym undoes.0)
refused_so name agent old new undone (TooManyHeads heads) (Ok p) undoes told = told name agent old.held undone ∙ ap (undone_reply name agent old.limits old.held undone) (sym undoes.0)
refused_so name agent old new undone (Full count) (Ok p) undoes told = told name agent old.held undone ∙ ap (undone_reply name agent old.limits old.held undone) (sym undoes.0)
refused_so name agent old new undone OutOfMemory (Ok p) undoes told = absurd told
