-- An edit that is refused stops the edits at its line.
use Rattle.std.proofs.Common.{◌≡◌, ℕ, List, ◌∷◌, ◌++◌, Err, Ok, ap}
use Rattle.ew_model.specs.Limits.{LimitNumbers}
use Rattle.ew_model.specs.Kept.{ReplicaState}
use Rattle.ew_model.specs.Edits.{Edit, EditRefusal, events_of_edit}
use Rattle.ew_model.specs.Edits.EditRefusal.{OutOfRange, TooManyHeads, Full}
use Rattle.ew_model.specs.Scripts.{Numbered}
use Rattle.replica.specs.declared.fault.EditFault.{EditFault}
use Rattle.replica.specs.declared.fault.EditFault.TheVariants as fault
use Rattle.replica.specs.Answers.{EditsBy}
use Rattle.opened_files.specs.declared.reply.Reply as code
use Rattle.line_plans.specs.Edits.{LineRefuses}
use Rattle.command_table.specs.Scripts.{stopped_at, then_edited, edited_by}
use Rattle.command_table.specs.Table.{line_refusal}
use Rattle.opened_files.specs.Views.{reply_view}

module _ (limits : LimitNumbers) (agent : List ℕ) (old new : ReplicaState) (line : ℕ) (e : Edit) (items : List (Numbered Edit)) (p : code.Reply) where
  abbrev all : List (Numbered Edit)
  all = record { line = line; item = e } ∷ items

  pub stops :
      (f : EditFault) → EditsBy agent e old new (Err f) → LineRefuses limits line f (Ok p) →
      (l : ℕ) × (w : EditRefusal) × (edited_by old.limits agent old.held all ≡ stopped_at l w) × (reply_view p ≡ line_refusal limits l w)
  stops (fault.OutOfRange len) h told = (line, OutOfRange len, ap (λ o. then_edited line o (edited_by old.limits agent (old.held ++ events_of_edit old.held agent e) items)) h.0, told)
  stops (fault.TooManyHeads heads) h told = (line, TooManyHeads heads, ap (λ o. then_edited line o (edited_by old.limits agent (old.held ++ events_of_edit old.held agent e) items)) h.0, told)
  stops (fault.Full count) h told = (line, Full count, ap (λ o. then_edited line o (edited_by old.limits agent (old.held ++ events_of_edit old.held agent e) items)) h.0, told)
  stops fault.OutOfMemory h told = absurd told
