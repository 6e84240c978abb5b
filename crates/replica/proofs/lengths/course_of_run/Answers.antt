use Rattle.std.proofs.Common.{sym, subst}
use Rattle.operation_runs.specs.declared.run.OperationRun.{OperationRun}
use Rattle.operation_runs.specs.Runs.{run_ops}
use Rattle.replica.specs.declared.length_runs.Course.TheVariants.{Rises, Falls, Stays}
use Rattle.replica.specs.LengthRuns.{AllTake}
use Rattle.replica.proofs.LengthSteps.{insertions_take, deletions_take, back_take, nothings_take}
use Rattle.replica.proofs.lengths.course_of_run.Goals as goal

pub returns-in-Insertions : goal.returns-in-Insertions
returns-in-Insertions c = let a = c.in-Insertions in subst (λ (r : OperationRun). AllTake Rises (run_ops r)) (sym a.is) (insertions_take a.at a.chars.now)

pub returns-in-Deletions : goal.returns-in-Deletions
returns-in-Deletions c = let a = c.in-Deletions in subst (λ (r : OperationRun). AllTake Falls (run_ops r)) (sym a.is) (deletions_take a.at a.count)

pub returns-in-BackDeletions : goal.returns-in-BackDeletions
returns-in-BackDeletions c = let a = c.in-BackDeletions in subst (λ (r : OperationRun). AllTake Falls (run_ops r)) (sym a.is) (back_take a.at a.count)

pub returns-in-Nothings : goal.returns-in-Nothings
returns-in-Nothings c = let a = c.in-Nothings in subst (λ (r : OperationRun). AllTake Stays (run_ops r)) (sym a.is) (nothings_take a.count)
