use Rattle.std.proofs.Common.{◌+◌, ap, arith}
use Rattle.critical.specs.KeptCuts.{KeptCuts, with_count}
use Rattle.critical.proofs.Chains.{end_higher}
use Rattle.critical.proofs.list.Cuts.count_chain.Goals as goal

pub invariant_of-self : goal.invariant_of-self
invariant_of-self c = record {
  rising = c.self.invariant.rising;
  below = end_higher c.self.inside.spans.items c.self.inside.count (c.self.inside.count + c.args.count) (omega arith) c.self.invariant.below;
  alike = c.self.invariant.alike;
  within = let low = c.self.invariant.within in omega (arith, low);
  older_rising = c.self.invariant.older_rising;
  older_ends = c.self.invariant.older_ends;
  older_alike = c.self.invariant.older_alike;
}

pub returns : goal.returns
returns c = ap (λ (v : KeptCuts). with_count v c.args.count) c.self.view_is
