use Rattle.std.proofs.Common.{◌≡◌, [], length, sym, ap, ◌∙◌, refl, subst, arith}
use Rattle.operation_runs.specs.declared.run.OperationRun.{OperationRun}
use Rattle.operation_runs.specs.declared.stored.RunKind.TheVariants.{Insertions, Deletions, BackDeletions, Nothings}
use Rattle.operation_runs.specs.Runs.{run_ops, RunFits, insertions, deletions, back_deletions, nothings}
use Rattle.operation_runs.specs.Stored.{run_chars, IsKeptOf}
use Rattle.operation_runs.proofs.RunLaws.{length-insertions, length-deletions, length-back_deletions, length-nothings}
use Rattle.operation_runs.proofs.StoredLaws.{kept_of}
use Rattle.operation_runs.proofs.stored.StoredRun.of.Goals as goal

pub returns-in-Insertions : goal.returns-in-Insertions
returns-in-Insertions c =
    let a = c.in-Insertions in
    let n = c.count-count.result in
    let fit = subst RunFits a.is c.requires.fits in
    let long : n ≡ length a.chars.now = c.count-count.ensures ∙ ap (λ (r : OperationRun). length (run_ops r)) a.is ∙ length-insertions a.at a.chars.now in
    let few = fit.0 in let high = fit.1 in
    subst (λ (r : OperationRun). IsKeptOf (run_ops r) (run_chars r) (record { kind = Insertions; at = a.at; count = n })) (sym a.is)
    (kept_of Insertions a.at n a.chars.now (insertions a.at a.chars.now) refl (sym long) (omega (arith, c.requires.some, c.count-count.ensures)) (omega (arith, few, long)) (omega (arith, high, long)))

pub returns-in-Deletions : goal.returns-in-Deletions
returns-in-Deletions c =
    let a = c.in-Deletions in
    let n = c.count-count.result in
    let long : n ≡ a.count = c.count-count.ensures ∙ ap (λ (r : OperationRun). length (run_ops r)) a.is ∙ length-deletions a.at a.count in
    subst (λ (r : OperationRun). IsKeptOf (run_ops r) (run_chars r) (record { kind = Deletions; at = a.at; count = n })) (sym a.is)
    (kept_of Deletions a.at n [] (deletions a.at a.count) (ap (deletions a.at) long) refl (omega (arith, c.requires.some, c.count-count.ensures)) (omega arith) tt)

pub returns-in-BackDeletions : goal.returns-in-BackDeletions
returns-in-BackDeletions c =
    let a = c.in-BackDeletions in
    let n = c.count-count.result in
    let fit = subst RunFits a.is c.requires.fits in
    let long : n ≡ a.count = c.count-count.ensures ∙ ap (λ (r : OperationRun). length (run_ops r)) a.is ∙ length-back_deletions a.at a.count in
    subst (λ (r : OperationRun). IsKeptOf (run_ops r) (run_chars r) (record { kind = BackDeletions; at = a.at; count = n })) (sym a.is)
    (kept_of BackDeletions a.at n [] (back_deletions a.at a.count) (ap (back_deletions a.at) long) refl (omega (arith, c.requires.some, c.count-count.ensures)) (omega arith) (omega (arith, fit, long)))

pub returns-in-Nothings : goal.returns-in-Nothings
returns-in-Nothings c =
    let a = c.in-Nothings in
    let n = c.count-count.result in
    let long : n ≡ a.count = c.count-count.ensures ∙ ap (λ (r : OperationRun). length (run_ops r)) a.is ∙ length-nothings a.count in
    subst (λ (r : OperationRun). IsKeptOf (run_ops r) (run_chars r) (record { kind = Nothings; at = 0; count = n })) (sym a.is)
    (kept_of Nothings 0 n [] (nothings a.count) (ap nothings long) refl (omega (arith, c.requires.some, c.count-count.ensures)) (omega arith) tt)
