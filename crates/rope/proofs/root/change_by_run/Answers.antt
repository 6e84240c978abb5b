use Rattle.std.proofs.Common.{◌-◌, ◌<◌, length, sym, ap, ◌∙◌, subst, arith}
use Rattle.ew_model.specs.Operations.{changed_by_all}
use Rattle.ew_model.specs.TextLaws.{AllFit}
use Rattle.operation_runs.specs.declared.run.OperationRun.{OperationRun}
use Rattle.operation_runs.specs.Runs.{run_ops, RunFits, deletions, back_deletions}
use Rattle.operation_runs.proofs.RunLaws.{length-deletions, length-back_deletions}
use Rattle.rope.specs.Typed.{IsTyped}
use Rattle.rope.specs.Whole.{chars_of_root}
use Rattle.rope.proofs.RunChanges.{insertions_typed, deletions_from_one, deletions_down_to, deleted, nothing_done}
use Rattle.rope.proofs.root.change_by_run.Goals as goal

pub insert_run-requires-clause-typed : goal.insert_run-requires-clause-typed
insert_run-requires-clause-typed c = let a = c.in-Insertions in subst (λ (r : OperationRun). IsTyped a.at (run_ops r)) (sym a.is) (insertions_typed a.at a.chars.now)

pub remove_chars-requires-clause-within : goal.remove_chars-requires-clause-within
remove_chars-requires-clause-within c =
    let a = c.in-Deletions in
    let text = chars_of_root c.args.root.now in
    let some = subst (λ (r : OperationRun). 0 < length (run_ops r)) a.is c.requires.some in
    (deleted (deletions a.at a.count) a.at a.count text (length-deletions a.at a.count) (omega (arith, some, length-deletions a.at a.count)) (deletions_from_one a.at a.count) (subst (λ (r : OperationRun). AllFit text (run_ops r)) a.is c.requires.fit)).1

pub returns-in-Deletions-clause-ok : goal.returns-in-Deletions-clause-ok
returns-in-Deletions-clause-ok c =
    let a = c.in-Deletions in
    let text = chars_of_root c.args.root.now in
    let some = subst (λ (r : OperationRun). 0 < length (run_ops r)) a.is c.requires.some in
    let done = (deleted (deletions a.at a.count) a.at a.count text (length-deletions a.at a.count) (omega (arith, some, length-deletions a.at a.count)) (deletions_from_one a.at a.count) (subst (λ (r : OperationRun). AllFit text (run_ops r)) a.is c.requires.fit)).0 in
    c.remove_chars.ensures.chars ∙ sym done ∙ ap (λ (r : OperationRun). changed_by_all (run_ops r) text) (sym a.is)

pub returns-in-BackDeletions-clause-ok : goal.returns-in-BackDeletions-clause-ok
returns-in-BackDeletions-clause-ok c =
    let a = c.in-BackDeletions in
    let text = chars_of_root c.args.root.now in
    let low = a.at - (a.count - 1) in
    let long = length-back_deletions a.at a.count in
    let some = subst (λ (r : OperationRun). 0 < length (run_ops r)) a.is c.requires.some in
    let fits = subst RunFits a.is c.requires.fits in
    let done = (deleted (back_deletions a.at a.count) low a.count text long (omega (arith, some, long)) (deletions_down_to low a.at a.count (omega (arith, some, long, fits))) (subst (λ (r : OperationRun). AllFit text (run_ops r)) a.is c.requires.fit)).0 in
    c.remove_chars-in-BackDeletions.ensures.chars ∙ sym done ∙ ap (λ (r : OperationRun). changed_by_all (run_ops r) text) (sym a.is)

pub returns-in-Nothings-clause-ok : goal.returns-in-Nothings-clause-ok
returns-in-Nothings-clause-ok c =
    let a = c.in-Nothings in
    let text = chars_of_root c.args.root.now in
    sym (nothing_done a.count text) ∙ ap (λ (r : OperationRun). changed_by_all (run_ops r) text) (sym a.is)
