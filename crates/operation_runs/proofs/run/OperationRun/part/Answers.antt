use Rattle.std.proofs.Common.{◌-◌, ◌≤◌, length, take, drop, sym, ap, ◌∙◌, subst, arith}
use Rattle.operation_runs.specs.declared.run.OperationRun.{OperationRun}
use Rattle.operation_runs.specs.Runs.{run_ops, RunFits}
use Rattle.operation_runs.proofs.RunLaws.{length-insertions, length-deletions, length-back_deletions, length-nothings, insertions_part, deletions_part, back_part, nothings_part}
use Rattle.operation_runs.proofs.run.OperationRun.part.Goals as goal

pub overflow_add-result : goal.overflow_add-result
overflow_add-result c =
    let a = c.in-Insertions in
    let within = subst (λ (r : OperationRun). c.args.to ≤ length (run_ops r)) a.is c.requires.within in
    let fit = (subst RunFits a.is c.requires.fit).1 in
    omega (arith, within, fit, c.requires.some, length-insertions a.at a.chars.now)

pub slice_bounds-result-end : goal.slice_bounds-result-end
slice_bounds-result-end c =
    let a = c.in-Insertions in
    let within = subst (λ (r : OperationRun). c.args.to ≤ length (run_ops r)) a.is c.requires.within in
    omega (arith, within, length-insertions a.at a.chars.now)

pub overflow_sub-result : goal.overflow_sub-result
overflow_sub-result c =
    let a = c.in-BackDeletions in
    let within = subst (λ (r : OperationRun). c.args.to ≤ length (run_ops r)) a.is c.requires.within in
    let fit = subst RunFits a.is c.requires.fit in
    omega (arith, within, fit, c.requires.some, length-back_deletions a.at a.count)

pub returns-in-Insertions-clause-ops : goal.returns-in-Insertions-clause-ops
returns-in-Insertions-clause-ops c =
    let a = c.in-Insertions in
    let low : c.args.from ≤ c.args.to = omega (arith, c.requires.some) in
    insertions_part a.at a.chars.now c.args.from c.args.to low ∙ ap (λ (r : OperationRun). drop c.args.from (take c.args.to (run_ops r))) (sym a.is)

pub returns-in-Deletions-clause-ops : goal.returns-in-Deletions-clause-ops
returns-in-Deletions-clause-ops c =
    let a = c.in-Deletions in
    let within = subst (λ (r : OperationRun). c.args.to ≤ length (run_ops r)) a.is c.requires.within in
    let high : c.args.to ≤ a.count = omega (arith, within, length-deletions a.at a.count) in
    deletions_part a.at a.count c.args.from c.args.to high ∙ ap (λ (r : OperationRun). drop c.args.from (take c.args.to (run_ops r))) (sym a.is)

pub returns-in-BackDeletions-clause-ops : goal.returns-in-BackDeletions-clause-ops
returns-in-BackDeletions-clause-ops c =
    let a = c.in-BackDeletions in
    let within = subst (λ (r : OperationRun). c.args.to ≤ length (run_ops r)) a.is c.requires.within in
    let high : c.args.to ≤ a.count = omega (arith, within, length-back_deletions a.at a.count) in
    back_part a.at a.count c.args.from c.args.to high ∙ ap (λ (r : OperationRun). drop c.args.from (take c.args.to (run_ops r))) (sym a.is)

pub returns-in-BackDeletions-clause-fit : goal.returns-in-BackDeletions-clause-fit
returns-in-BackDeletions-clause-fit c =
    let a = c.in-BackDeletions in
    let within = subst (λ (r : OperationRun). c.args.to ≤ length (run_ops r)) a.is c.requires.within in
    let fit = subst RunFits a.is c.requires.fit in
    omega (arith, within, fit, c.requires.some, length-back_deletions a.at a.count)

pub returns-in-Nothings-clause-ops : goal.returns-in-Nothings-clause-ops
returns-in-Nothings-clause-ops c =
    let a = c.in-Nothings in
    let within = subst (λ (r : OperationRun). c.args.to ≤ length (run_ops r)) a.is c.requires.within in
    let high : c.args.to ≤ a.count = omega (arith, within, length-nothings a.count) in
    nothings_part a.count c.args.from c.args.to high ∙ ap (λ (r : OperationRun). drop c.args.from (take c.args.to (run_ops r))) (sym a.is)
