use Rattle.order_tree.proofs.PairLaws.{lower_zero}
use Rattle.order_tree.proofs.tree.OrderTree.effect_before.Goals as goal

pub returns-in_default-clause-effect : goal.returns-in_default-clause-effect
returns-in_default-clause-effect g c = lower_zero g.R.Run.effect c.args.self.now.pairs c.args.label c.if-label-gt0.false
