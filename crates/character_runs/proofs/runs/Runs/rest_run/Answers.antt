use Rattle.std.proofs.Common.{ℕ, List, sym, ap, ◌∙◌, subst, arith}
use Rattle.std.proofs.lemmas.Bool.{eqb-true}
use Rattle.walker_record.specs.Stretches.{Stretch}
use Rattle.order_tree.specs.Pairs.{changed, runs}
use Rattle.character_runs.specs.States.{shown_in}
use Rattle.character_runs.specs.Laid.{AreCounted, chars_in}
use Rattle.character_runs.specs.Loose.{loose_in}
use Rattle.character_runs.specs.Resting.{at_rest}
use Rattle.character_runs.proofs.AlteredChars.{recounted, same_long, sums_fit}
use Rattle.character_runs.proofs.LooseCuts.{changed_loose}
use Rattle.character_runs.proofs.RestedRuns.{rest_keeps, run_counted}
use Rattle.character_runs.proofs.Counters.{visible_fits}
use Rattle.character_runs.proofs.runs.Runs.rest_run.Goals as goal

pub returns-then-is_at_rest-clause-pairs : goal.returns-then-is_at_rest-clause-pairs
returns-then-is_at_rest-clause-pairs g c =
    let was = c.args.found.run in
    let prepared = eqb-true was.prepared (at_rest was.from) (sym c.is_at_rest.ensures ∙ c.if-is_at_rest.true) in
    rest_keeps c.args.self.now.tree.pairs c.args.found.label was c.facts.ensures.rising c.requires.held prepared

pub change-requires-clause-fit : goal.change-requires-clause-fit
change-requires-clause-fit g c =
    let ps = c.args.self.now.tree.pairs in
    let was = c.args.found.run in
    let now = c.rested-after.result in
    let len = ap (λ (r : Stretch). r.len) c.rested-after.ensures in
    let long = same_long ps c.facts.ensures.rising c.args.found.label was now c.requires.held len in
    let few = c.requires.counted.few in
    let fit = sums_fit (changed ps c.args.found.label now) (omega (arith, long, few)) in
    record { known = fit.0; prepared = fit.1; effect = fit.2 }

pub visible-requires-clause-some : goal.visible-requires-clause-some
visible-requires-clause-some g c =
    let ps = c.args.self.now.tree.pairs in
    let len = ap (λ (r : Stretch). r.len) c.rested-after.ensures in
    let most = (recounted ps c.facts.ensures.rising c.args.found.label c.args.found.run c.rested-after.result c.requires.held len).visible_there in
    let is = c.requires.counted.visible_is in
    omega (arith, most, is)

pub visible-requires-clause-few : goal.visible-requires-clause-few
visible-requires-clause-few g c =
    let ps = c.args.self.now.tree.pairs in
    let now = c.rested-after.result in
    let len = ap (λ (r : Stretch). r.len) c.rested-after.ensures in
    visible_fits ps c.args.self.now.labels c.args.visible (shown_in (chars_in ps)) c.requires.counted (changed ps c.args.found.label now) (record { before = c.args.found.run; after = now })
    (recounted ps c.facts.ensures.rising c.args.found.label c.args.found.run now c.requires.held len)

pub returns-clause-counted : goal.returns-clause-counted
returns-clause-counted g c =
    let ps = c.args.self.now.tree.pairs in
    let now = c.rested-after.result in
    subst (λ (qs : List (ℕ × Stretch)). AreCounted qs c.args.self.now.labels c.visible.result (shown_in (chars_in qs))) (sym c.change.ensures.pairs)
    (run_counted ps c.args.self.now.labels c.args.visible c.visible.result c.args.found.label c.args.found.run now c.facts.ensures.rising c.requires.counted c.requires.held
    (ap (λ (r : Stretch). r.from) c.rested-after.ensures) (ap (λ (r : Stretch). r.len) c.rested-after.ensures) c.visible.ensures)

pub returns-clause-loose : goal.returns-clause-loose
returns-clause-loose g c among =
    let ps = c.args.self.now.tree.pairs in
    ap (λ (xs : List (ℕ × Stretch)). loose_in among (runs xs)) c.change.ensures.pairs
    ∙ changed_loose among ps c.args.found.label c.args.found.run c.rested-after.result c.facts.ensures.rising c.requires.held (ap (λ (r : Stretch). r.from) c.rested-after.ensures) (ap (λ (r : Stretch). r.len) c.rested-after.ensures)
