use Rattle.std.proofs.Common.{sym, ap, ◌∙◌}
use Rattle.operation_runs.specs.Runs.{run_ops}
use Rattle.replica.proofs.OfferedRuns.{insertions_do, deletions_do, back_deletions_do}
use Rattle.replica.proofs.offered.text_ops.Goals as goal

pub returns-in-Insertions-clause-changes : goal.returns-in-Insertions-clause-changes
returns-in-Insertions-clause-changes c = insertions_do c.in-Insertions.at c.in-Insertions.chars.now ∙ ap run_ops (sym c.in-Insertions.is)

pub returns-in-Deletions-clause-changes : goal.returns-in-Deletions-clause-changes
returns-in-Deletions-clause-changes c = deletions_do c.in-Deletions.at c.in-Deletions.count ∙ ap run_ops (sym c.in-Deletions.is)

pub returns-in-BackDeletions-clause-changes : goal.returns-in-BackDeletions-clause-changes
returns-in-BackDeletions-clause-changes c = back_deletions_do c.in-BackDeletions.at c.in-BackDeletions.count ∙ ap run_ops (sym c.in-BackDeletions.is)
