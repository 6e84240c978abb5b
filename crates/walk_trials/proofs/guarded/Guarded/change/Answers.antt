use Rattle.std.proofs.Common.{refl, ap, arith}
use Rattle.order_tree.specs.Pairs.{IsRising, total}
use Rattle.walker_record.specs.Stretches.{known_of, prepared_of, effect_of}
use Rattle.walk_trials.proofs.Totals.{total_changed}
use Rattle.walk_trials.proofs.guarded.Guarded.change.Goals as goal

pub change-requires-clause-fit : goal.change-requires-clause-fit
change-requires-clause-fit g c =
    let ps = c.args.self.now.tree.pairs in
    let rising : IsRising ps = c.if-not-is_held.ensures.rising refl in
    let old = c.locate.result.now in
    record {
      known = omega (arith, total_changed known_of ps c.args.label old c.args.run rising c.locate.ensures.run, c.args.self.now.known, c.in-Some.ensures.known);
      prepared = omega (arith, total_changed prepared_of ps c.args.label old c.args.run rising c.locate.ensures.run, c.args.self.now.prepared, c.in-Some.ensures.prepared);
      effect = omega (arith, total_changed effect_of ps c.args.label old c.args.run rising c.locate.ensures.run, c.args.self.now.effect, c.in-Some.ensures.effect);
    }

pub invariant_of-self : goal.invariant_of-self
invariant_of-self g c =
    let ps = c.args.self.now.tree.pairs in
    let rising : IsRising ps = c.if-not-is_held.ensures.rising refl in
    let old = c.locate.result.now in
    let is = c.change.ensures.pairs in
    record {
      known = omega (arith, ap (total known_of) is, total_changed known_of ps c.args.label old c.args.run rising c.locate.ensures.run, c.args.self.now.known, c.in-Some.ensures.known);
      prepared = omega (arith, ap (total prepared_of) is, total_changed prepared_of ps c.args.label old c.args.run rising c.locate.ensures.run, c.args.self.now.prepared, c.in-Some.ensures.prepared);
      effect = omega (arith, ap (total effect_of) is, total_changed effect_of ps c.args.label old c.args.run rising c.locate.ensures.run, c.args.self.now.effect, c.in-Some.ensures.effect);
    }
