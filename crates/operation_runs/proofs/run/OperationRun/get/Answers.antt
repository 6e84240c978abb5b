use Rattle.std.proofs.Common.{◌+◌, ◌<◌, length, slice_get, Some, sym, ap, ◌∙◌, subst, arith}
use Rattle.std.proofs.lemmas.List.{get_or_read}
use Rattle.ew_model.specs.declared.text_op.TextOp.TheVariants.{Ins}
use Rattle.operation_runs.specs.declared.run.OperationRun.{OperationRun}
use Rattle.operation_runs.specs.Runs.{run_ops, RunFits}
use Rattle.operation_runs.proofs.RunLaws.{length-insertions, length-deletions, length-back_deletions, length-nothings, insertion_there, deletion_there, back_there, nothing_there}
use Rattle.operation_runs.proofs.run.OperationRun.get.Goals as goal

pub bounds-chars-place : goal.bounds-chars-place
bounds-chars-place c =
    let a = c.in-Insertions in
    let within = subst (λ (r : OperationRun). c.args.place < length (run_ops r)) a.is c.requires.within in
    omega (arith, within, length-insertions a.at a.chars.now)

pub overflow_add-result : goal.overflow_add-result
overflow_add-result c =
    let a = c.in-Insertions in
    let within = subst (λ (r : OperationRun). c.args.place < length (run_ops r)) a.is c.requires.within in
    let fit = (subst RunFits a.is c.requires.fit).1 in
    omega (arith, within, fit, length-insertions a.at a.chars.now)

pub overflow_sub-result : goal.overflow_sub-result
overflow_sub-result c =
    let a = c.in-BackDeletions in
    let within = subst (λ (r : OperationRun). c.args.place < length (run_ops r)) a.is c.requires.within in
    let fit = subst RunFits a.is c.requires.fit in
    omega (arith, within, fit, length-back_deletions a.at a.count)

pub returns-in-Insertions : goal.returns-in-Insertions
returns-in-Insertions c =
    let a = c.in-Insertions in
    let within = subst (λ (r : OperationRun). c.args.place < length (run_ops r)) a.is c.requires.within in
    let low : c.args.place < length a.chars.now = omega (arith, within, length-insertions a.at a.chars.now) in
    ap (λ (r : OperationRun). slice_get (run_ops r) c.args.place) a.is ∙ insertion_there a.at a.chars.now c.args.place low ∙ ap (λ ch. Some (Ins (a.at + c.args.place) ch)) (sym (get_or_read a.chars.now c.args.place c.index-chars-place.result low c.index-chars-place.is 0))

pub returns-in-Deletions : goal.returns-in-Deletions
returns-in-Deletions c =
    let a = c.in-Deletions in
    let within = subst (λ (r : OperationRun). c.args.place < length (run_ops r)) a.is c.requires.within in
    ap (λ (r : OperationRun). slice_get (run_ops r) c.args.place) a.is ∙ deletion_there a.at a.count c.args.place (omega (arith, within, length-deletions a.at a.count))

pub returns-in-BackDeletions : goal.returns-in-BackDeletions
returns-in-BackDeletions c =
    let a = c.in-BackDeletions in
    let within = subst (λ (r : OperationRun). c.args.place < length (run_ops r)) a.is c.requires.within in
    ap (λ (r : OperationRun). slice_get (run_ops r) c.args.place) a.is ∙ back_there a.at a.count c.args.place (omega (arith, within, length-back_deletions a.at a.count))

pub returns-in-Nothings : goal.returns-in-Nothings
returns-in-Nothings c =
    let a = c.in-Nothings in
    let within = subst (λ (r : OperationRun). c.args.place < length (run_ops r)) a.is c.requires.within in
    ap (λ (r : OperationRun). slice_get (run_ops r) c.args.place) a.is ∙ nothing_there a.count c.args.place (omega (arith, within, length-nothings a.count))
