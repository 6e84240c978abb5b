use Rattle.std.proofs.Common.{◌≡◌, ◌+◌, ◌-◌, ◌≤◌, List, length, take, sym, subst, arith}
use Rattle.std.proofs.lemmas.List.{length-take-le}
use Rattle.ew_model.specs.declared.text_op.TextOp.{TextOp}
use Rattle.operation_runs.specs.declared.run.OperationRun.{OperationRun}
use Rattle.operation_runs.specs.Runs.{run_ops, RunFits, insertions}
use Rattle.operation_runs.proofs.RunLaws.{length-insertions, length-deletions, length-back_deletions, length-nothings, insertions_to, deletions_to, back_to, nothings_to}
use Rattle.transform.specs.Changing.{FitTo}
use Rattle.transform.proofs.Passing.{insertions_fit, deletions_fit, back_fit, nothings_fit}
use Rattle.transform.proofs.cut.passed_of.Goals as goal

pub returns-in-Insertions-clause-fit : goal.returns-in-Insertions-clause-fit
returns-in-Insertions-clause-fit c =
    let a = c.in-Insertions in
    let most = c.args.most in
    let within = subst (λ (r : OperationRun). most ≤ length (run_ops r)) a.is c.requires.within in
    let long : length (take most a.chars.now) ≡ most = length-take-le most a.chars.now (omega (arith, within, length-insertions a.at a.chars.now)) in
    subst (λ (r : OperationRun). FitTo c.args.len (take most (run_ops r)) (c.args.len + most)) (sym a.is)
    (subst (λ (ops : List TextOp). FitTo c.args.len ops (c.args.len + most)) (sym (insertions_to a.at a.chars.now most))
    (subst (λ n. FitTo c.args.len (insertions a.at (take most a.chars.now)) (c.args.len + n)) long (insertions_fit a.at c.args.len (take most a.chars.now) c.if-at-len.true)))

pub returns-in-Deletions-clause-fit : goal.returns-in-Deletions-clause-fit
returns-in-Deletions-clause-fit c =
    let a = c.in-Deletions in
    let n = c.min-count.result in
    let within = subst (λ (r : OperationRun). c.args.most ≤ length (run_ops r)) a.is c.requires.within in
    subst (λ (r : OperationRun). FitTo c.args.len (take n (run_ops r)) (c.args.len - n)) (sym a.is)
    (subst (λ (ops : List TextOp). FitTo c.args.len ops (c.args.len - n)) (sym (deletions_to a.at a.count n (omega (arith, within, length-deletions a.at a.count, c.min-count.ensures)))) (deletions_fit a.at c.args.len n (omega (arith, c.min-count.ensures, c.if-at-len-2.true))))

pub returns-in-BackDeletions-clause-fit : goal.returns-in-BackDeletions-clause-fit
returns-in-BackDeletions-clause-fit c =
    let a = c.in-BackDeletions in
    let most = c.args.most in
    let within = subst (λ (r : OperationRun). most ≤ length (run_ops r)) a.is c.requires.within in
    let fits = subst RunFits a.is c.requires.fits in
    let few : most ≤ a.count = omega (arith, within, length-back_deletions a.at a.count) in
    subst (λ (r : OperationRun). FitTo c.args.len (take most (run_ops r)) (c.args.len - most)) (sym a.is)
    (subst (λ (ops : List TextOp). FitTo c.args.len ops (c.args.len - most)) (sym (back_to a.at a.count most few)) (back_fit a.at c.args.len most c.if-at-len-3.true (omega (arith, few, fits))))

pub returns-in-Nothings-clause-fit : goal.returns-in-Nothings-clause-fit
returns-in-Nothings-clause-fit c =
    let a = c.in-Nothings in
    let most = c.args.most in
    let within = subst (λ (r : OperationRun). most ≤ length (run_ops r)) a.is c.requires.within in
    subst (λ (r : OperationRun). FitTo c.args.len (take most (run_ops r)) c.args.len) (sym a.is)
    (subst (λ (ops : List TextOp). FitTo c.args.len ops c.args.len) (sym (nothings_to a.count most (omega (arith, within, length-nothings a.count)))) (nothings_fit c.args.len most))

pub overflow_sub-result-in-BackDeletions : goal.overflow_sub-result-in-BackDeletions
overflow_sub-result-in-BackDeletions c =
    let a = c.in-BackDeletions in
    let within = subst (λ (r : OperationRun). c.args.most ≤ length (run_ops r)) a.is c.requires.within in
    let fits = subst RunFits a.is c.requires.fits in
    omega (arith, within, fits, c.if-at-len-3.true, length-back_deletions a.at a.count)
