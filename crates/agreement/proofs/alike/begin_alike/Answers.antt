use Rattle.std.proofs.Common.{◌≡◌, ◌≤◌, length, take, sym, subst, arith}
use Rattle.std.proofs.lemmas.List.{length-take}
use Rattle.std.proofs.lemmas.Bool.{eqb-true}
use Rattle.std.proofs.lemmas.Bool.Decides.{Decides-eqb}
use Rattle.std.proofs.lemmas.Slice.Eq.{slice_eq-Decides}
use Rattle.operation_runs.specs.Runs.{run_ops, insertions, deletions, back_deletions}
use Rattle.operation_runs.proofs.RunLaws.{length-insertions}
use Rattle.agreement.specs.Sharing.{AreSameEdits}
use Rattle.agreement.proofs.SameEdits.{same_insertions, same_deletions, same_back}
use Rattle.agreement.proofs.alike.begin_alike.Goals as goal

pub slice_bounds-eq-end : goal.slice_bounds-eq-end
slice_bounds-eq-end c =
    let run = c.in-Insertions-Insertions in
    let within = subst (λ r. c.args.count ≤ length (run_ops r)) run.is-0 c.requires.ours in
    let many = length-insertions run.at run.chars.now in
    let many_taken = length-take c.args.count run.chars.now in
    omega (arith, within, many, many_taken)

pub slice_bounds-eq-end-then-at-other : goal.slice_bounds-eq-end-then-at-other
slice_bounds-eq-end-then-at-other c =
    let run = c.in-Insertions-Insertions in
    let within = subst (λ r. c.args.count ≤ length (run_ops r)) run.is-1 c.requires.theirs in
    let many = length-insertions run.other run.others.now in
    let many_taken = length-take c.args.count run.others.now in
    omega (arith, within, many, many_taken)

pub returns-then-at-other : goal.returns-then-at-other
returns-then-at-other c t =
    let run = c.in-Insertions-Insertions in
    let within = subst (λ r. c.args.count ≤ length (run_ops r)) run.is-0 c.requires.ours in
    let same : take c.args.count run.chars.now ≡ take c.args.count run.others.now = (slice_eq-Decides Decides-eqb (take c.args.count run.chars.now) (take c.args.count run.others.now) c.eq.result c.eq.ensures).0 t in
    subst (λ r. AreSameEdits (run_ops r) (run_ops c.args.theirs) c.args.count) (sym run.is-0)
    (subst (λ r. AreSameEdits (insertions run.at run.chars.now) (run_ops r) c.args.count) (sym run.is-1)
    (subst (λ i. AreSameEdits (insertions run.at run.chars.now) (insertions i run.others.now) c.args.count) c.if-at-other.true
    (same_insertions run.at run.chars.now run.others.now c.args.count within same)))

pub returns-in-Deletions-Deletions : goal.returns-in-Deletions-Deletions
returns-in-Deletions-Deletions c t =
    let run = c.in-Deletions-Deletions in
    let within = subst (λ r. c.args.count ≤ length (run_ops r)) run.is-0 c.requires.ours in
    let among = subst (λ r. c.args.count ≤ length (run_ops r)) run.is-1 c.requires.theirs in
    let at : run.other ≡ run.at = sym (eqb-true run.at run.other t) in
    subst (λ r. AreSameEdits (run_ops r) (run_ops c.args.theirs) c.args.count) (sym run.is-0)
    (subst (λ r. AreSameEdits (deletions run.at run.count-0) (run_ops r) c.args.count) (sym run.is-1)
    (subst (λ i. AreSameEdits (deletions run.at run.count-0) (deletions i run.count-1) c.args.count) (sym at)
    (same_deletions run.at run.count-0 run.count-1 c.args.count within (subst (λ i. c.args.count ≤ length (deletions i run.count-1)) at among))))

pub returns-in-BackDeletions-BackDeletions : goal.returns-in-BackDeletions-BackDeletions
returns-in-BackDeletions-BackDeletions c t =
    let run = c.in-BackDeletions-BackDeletions in
    let within = subst (λ r. c.args.count ≤ length (run_ops r)) run.is-0 c.requires.ours in
    let among = subst (λ r. c.args.count ≤ length (run_ops r)) run.is-1 c.requires.theirs in
    let at : run.other ≡ run.at = sym (eqb-true run.at run.other t) in
    subst (λ r. AreSameEdits (run_ops r) (run_ops c.args.theirs) c.args.count) (sym run.is-0)
    (subst (λ r. AreSameEdits (back_deletions run.at run.count-0) (run_ops r) c.args.count) (sym run.is-1)
    (subst (λ i. AreSameEdits (back_deletions run.at run.count-0) (back_deletions i run.count-1) c.args.count) (sym at)
    (same_back run.at run.count-0 run.count-1 c.args.count within (subst (λ i. c.args.count ≤ length (back_deletions i run.count-1)) at among))))
