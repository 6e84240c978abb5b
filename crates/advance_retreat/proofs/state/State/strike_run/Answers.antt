use Rattle.std.proofs.Common.{◌≡◌, List, ◌++◌, sym, ap, ◌∙◌, subst}
use Rattle.character_runs.specs.Deleting.{struck_each}
use Rattle.advance_retreat.specs.declared.target.Target.{Target}
use Rattle.advance_retreat.specs.Kept.{Kept, with_deletions, deletion_targets}
use Rattle.advance_retreat.specs.Refusals.{is_told, FewLoose}
use Rattle.advance_retreat.proofs.DeletingEach.{deletion_told, with_deletions_is}
use Rattle.advance_retreat.proofs.LooseEvents.{many_few}
use Rattle.advance_retreat.proofs.state.State.strike_run.Goals as goal

pub invariant_of-self-in-Ok-true : goal.invariant_of-self-in-Ok-true
invariant_of-self-in-Ok-true c =
    let inside = c.self.inside in
    let ts = inside.targets in
    let us = deletion_targets c.args.lv c.args.first c.args.count in
    subst (λ (vs : List Target). FewLoose vs c.delete_run.new.self.runs inside.lost) (sym c.in_default.ensures.ok)
    (many_few ts us inside.tree.runs c.delete_run.new.self.runs inside.lost c.self.invariant (c.delete_run.ensures.told (is_told (ts ++ us)) (λ k lt. deletion_told ts c.args.lv c.args.first c.args.count k lt)))

pub returns-in-Ok-true-clause-yes : goal.returns-in-Ok-true-clause-yes
returns-in-Ok-true-clause-yes c = λ yes.
    let inside = c.self.inside in
    let tree = c.delete_run.new.self in
    let old : Kept = record { base = inside.base; records = inside.tree.records; attached = inside.tree.attached; targets = inside.targets; lost = inside.lost } in
    let new : Kept = record { base = inside.base; records = tree.records; attached = tree.attached; targets = c.add_deletions.new.self; lost = inside.lost } in
    let records : tree.records ≡ struck_each inside.tree.records c.args.first c.args.count = c.in-Ok-true.ensures.yes c.in-Ok-true.field-0-test in
    let attached = c.in-Ok-true.ensures.attached in
    let targets = c.in_default.ensures.ok in
    let is : new ≡ with_deletions old c.args.lv c.args.first c.args.count =
    (λ i. record { base = inside.base; records = records i; attached = attached i; targets = targets i; lost = inside.lost }) ∙ sym (with_deletions_is old c.args.lv c.args.first c.args.count) in
    is ∙ ap (λ (s : Kept). with_deletions s c.args.lv c.args.first c.args.count) c.self.view_is
