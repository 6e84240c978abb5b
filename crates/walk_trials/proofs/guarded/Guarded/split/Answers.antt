use Rattle.std.proofs.Common.{◌∙◌, refl}
use Rattle.order_tree.specs.Pairs.{IsRising}
use Rattle.walker_record.specs.Stretches.{known_of, prepared_of, effect_of}
use Rattle.walker_record.specs.StretchLaws.{joined_known_of, joined_prepared_of, joined_effect_of}
use Rattle.walker_record.specs.contracts.record.RecordRun.TheImpl.{ghosts}
use Rattle.walk_trials.proofs.Totals.{total_cut_or_same}
use Rattle.walk_trials.proofs.guarded.Guarded.split.Goals as goal

pub invariant_of-self : goal.invariant_of-self
invariant_of-self g c =
    let old = c.args.self.now.tree in
    let new = c.split.new.self in
    let rising : IsRising old.pairs = c.if-not-is_held.ensures.rising refl in
    record {
      known = total_cut_or_same known_of ghosts c.split.result old new c.args.label c.args.at joined_known_of rising c.split.ensures.pairs c.split.ensures.err ∙ c.args.self.now.known;
      prepared = total_cut_or_same prepared_of ghosts c.split.result old new c.args.label c.args.at joined_prepared_of rising c.split.ensures.pairs c.split.ensures.err ∙ c.args.self.now.prepared;
      effect = total_cut_or_same effect_of ghosts c.split.result old new c.args.label c.args.at joined_effect_of rising c.split.ensures.pairs c.split.ensures.err ∙ c.args.self.now.effect;
    }
