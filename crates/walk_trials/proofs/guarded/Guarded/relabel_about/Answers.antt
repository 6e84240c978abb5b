use Rattle.std.proofs.Common.{◌∙◌}
use Rattle.walker_record.specs.Stretches.{known_of, prepared_of, effect_of}
use Rattle.order_tree.proofs.AboutLaws.{total-same}
use Rattle.walk_trials.proofs.guarded.Guarded.relabel_about.Goals as goal

pub invariant_of-self : goal.invariant_of-self
invariant_of-self g c =
    let old = c.args.self.now.tree.pairs in
    let new = c.relabel_about.new.self.pairs in
    record {
      known = total-same known_of new old c.relabel_about.ensures.runs ∙ c.args.self.now.known;
      prepared = total-same prepared_of new old c.relabel_about.ensures.runs ∙ c.args.self.now.prepared;
      effect = total-same effect_of new old c.relabel_about.ensures.runs ∙ c.args.self.now.effect;
    }
