use Rattle.std.proofs.Common.{◌+◌, ◌≤◌, ◌^◌, suc, length, ap, subst, arith}
use Rattle.ew_model.proofs.EditTexts.{insertions_long, back_long}
use Rattle.event_runs.specs.declared.ops.RunOps.{RunOps}
use Rattle.event_runs.specs.RunOps.{ops_of, IndicesFit}
use Rattle.event_runs.proofs.ops.RunOps.index.Goals as goal

pub overflow_add-result : goal.overflow_add-result
overflow_add-result c =
    let same = ap (λ (ops : RunOps). length (ops_of ops)) c.in-Insertions.is in
    let long = insertions_long c.in-Insertions.at c.in-Insertions.text.now in
    let fit : c.in-Insertions.at + length c.in-Insertions.text.now ≤ 2 ^ 32 = subst IndicesFit c.in-Insertions.is c.requires.fit in
    omega (arith, c.requires.within, same, long, fit)

pub overflow_sub-result : goal.overflow_sub-result
overflow_sub-result c =
    let same = ap (λ (ops : RunOps). length (ops_of ops)) c.in-BackDeletions.is in
    let long = back_long c.in-BackDeletions.at c.in-BackDeletions.count in
    let fit : c.in-BackDeletions.count ≤ suc c.in-BackDeletions.at = subst IndicesFit c.in-BackDeletions.is c.requires.fit in
    omega (arith, c.requires.within, same, long, fit)
