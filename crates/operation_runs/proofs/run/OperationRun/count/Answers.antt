use Rattle.std.proofs.Common.{length, sym, ap, ◌∙◌}
use Rattle.operation_runs.specs.Runs.{run_ops}
use Rattle.operation_runs.proofs.RunLaws.{length-insertions, length-deletions, length-back_deletions, length-nothings}
use Rattle.operation_runs.proofs.run.OperationRun.count.Goals as goal

pub returns-in-Insertions : goal.returns-in-Insertions
returns-in-Insertions c = let a = c.in-Insertions in sym (length-insertions a.at a.chars.now) ∙ ap (λ r. length (run_ops r)) (sym a.is)

pub returns-in-Deletions : goal.returns-in-Deletions
returns-in-Deletions c = let a = c.in-Deletions in sym (length-deletions a.at a.count) ∙ ap (λ r. length (run_ops r)) (sym a.is)

pub returns-in-BackDeletions : goal.returns-in-BackDeletions
returns-in-BackDeletions c = let a = c.in-BackDeletions in sym (length-back_deletions a.at a.count) ∙ ap (λ r. length (run_ops r)) (sym a.is)

pub returns-in-Nothings : goal.returns-in-Nothings
returns-in-Nothings c = let a = c.in-Nothings in sym (length-nothings a.count) ∙ ap (λ r. length (run_ops r)) (sym a.is)
