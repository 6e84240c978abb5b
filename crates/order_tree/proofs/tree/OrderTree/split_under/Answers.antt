use Rattle.std.proofs.Common.{ℕ, subst}
use Rattle.order_tree.specs.Pairs.{IsCut}
use Rattle.order_tree.proofs.tree.OrderTree.split_under.Goals as goal

pub returns-clause-pairs : goal.returns-clause-pairs
returns-clause-pairs g c = subst (λ (n : ℕ). IsCut g.R.Run c.args.self.now.pairs c.cut.new.self.pairs c.args.label c.args.at n) c.in_ok-_own.ensures.given c.in_ok-_own.ensures.pairs
