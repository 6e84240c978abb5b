use Rattle.std.proofs.Common.{◌∙◌, refl}
use Rattle.order_tree.specs.Pairs.{IsRising}
use Rattle.walker_record.specs.Stretches.{known_of, prepared_of, effect_of}
use Rattle.walker_record.specs.StretchLaws.{joined_known_of, joined_prepared_of, joined_effect_of}
use Rattle.walker_record.specs.contracts.record.RecordRun.TheImpl.{ghosts}
use Rattle.walk_trials.proofs.Totals.{total_cut_under}
use Rattle.walk_trials.proofs.guarded.Guarded.split_shared.Goals as goal

pub invariant_of-self : goal.invariant_of-self
invariant_of-self g c =
    let old = c.args.self.now.tree in
    let new = c.split_under.new.self in
    let rising : IsRising old.pairs = c.if-not-is_held.ensures.rising refl in
    record {
      known = total_cut_under known_of ghosts c.split_under.result old new c.args.label c.args.at c.in-Some.own joined_known_of rising c.split_under.ensures.pairs c.split_under.ensures.err ∙ c.args.self.now.known;
      prepared = total_cut_under prepared_of ghosts c.split_under.result old new c.args.label c.args.at c.in-Some.own joined_prepared_of rising c.split_under.ensures.pairs c.split_under.ensures.err ∙ c.args.self.now.prepared;
      effect = total_cut_under effect_of ghosts c.split_under.result old new c.args.label c.args.at c.in-Some.own joined_effect_of rising c.split_under.ensures.pairs c.split_under.ensures.err ∙ c.args.self.now.effect;
    }
