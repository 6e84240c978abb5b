use Rattle.std.proofs.Common.{ap, arith}
use Rattle.order_tree.specs.Pairs.{total}
use Rattle.walker_record.specs.Stretches.{known_of, prepared_of, effect_of}
use Rattle.walk_trials.proofs.Totals.{total_inserted}
use Rattle.walk_trials.proofs.guarded.Guarded.insert_after.Goals as goal

pub invariant_of-self-2 : goal.invariant_of-self-2
invariant_of-self-2 g c =
    let old = c.args.self.now.tree.pairs in
    let is = c.in_ok-own.ensures.pairs in
    record {
      known = omega (arith, ap (total known_of) is, total_inserted known_of old c.args.label c.in_ok-own.own c.args.run, c.args.self.now.known, c.in-Some.ensures.known);
      prepared = omega (arith, ap (total prepared_of) is, total_inserted prepared_of old c.args.label c.in_ok-own.own c.args.run, c.args.self.now.prepared, c.in-Some.ensures.prepared);
      effect = omega (arith, ap (total effect_of) is, total_inserted effect_of old c.args.label c.in_ok-own.own c.args.run, c.args.self.now.effect, c.in-Some.ensures.effect);
    }
