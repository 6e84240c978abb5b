use Rattle.std.proofs.Common.{◌∙◌, length, sym, ap, arith}
use Rattle.ew_model.proofs.EditTexts.{insertions_long, deletions_long, back_long}
use Rattle.event_runs.specs.declared.ops.RunOps.{RunOps}
use Rattle.event_runs.specs.RunOps.{ops_of}
use Rattle.event_runs.proofs.ops.RunOps.count.Goals as goal

pub overflow_cast-result : goal.overflow_cast-result
overflow_cast-result c =
    let same = ap (λ (ops : RunOps). length (ops_of ops)) c.in-Insertions.is in
    let long = insertions_long c.in-Insertions.at c.in-Insertions.text.now in
    omega (arith, c.requires, same, long)

pub returns-in-Insertions : goal.returns-in-Insertions
returns-in-Insertions c = sym (ap (λ (ops : RunOps). length (ops_of ops)) c.in-Insertions.is ∙ insertions_long c.in-Insertions.at c.in-Insertions.text.now)

pub returns-in-Deletions : goal.returns-in-Deletions
returns-in-Deletions c = sym (ap (λ (ops : RunOps). length (ops_of ops)) c.in-Deletions.is ∙ deletions_long c.in-Deletions.at c.in-Deletions.count)

pub returns-in-BackDeletions : goal.returns-in-BackDeletions
returns-in-BackDeletions c = sym (ap (λ (ops : RunOps). length (ops_of ops)) c.in-BackDeletions.is ∙ back_long c.in-BackDeletions.at c.in-BackDeletions.count)
