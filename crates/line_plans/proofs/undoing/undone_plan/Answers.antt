use Rattle.std.proofs.Common.{subst}
use Rattle.undo.specs.Undone.{undone_ids}
use Rattle.line_plans.specs.Undos.{UndoRefuses}
use Rattle.line_plans.proofs.Undos.{refused_so}
use Rattle.line_plans.proofs.undoing.undone_plan.Goals as goal

pub returns-in-Err-clause-told : goal.returns-in-Err-clause-told
returns-in-Err-clause-told g c =
    refused_so c.args.name.now c.args.agent c.args.replica.now _ (undone_ids c.args.undone.now) c.in-Err.fault c.refuse_undo.result c.in-Err.ensures.undoes
    (subst (λ l. UndoRefuses l c.in-Err.fault c.refuse_undo.result) c.limits-limits.ensures.limits c.refuse_undo.ensures.told)
