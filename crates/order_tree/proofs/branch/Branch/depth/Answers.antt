use Rattle.order_tree.proofs.KidLaws.{deep}
use Rattle.order_tree.proofs.branch.Branch.depth.Goals as goal

pub returns-clause-bound : goal.returns-clause-bound
returns-clause-bound g c = rw (← c.self.view_is) (deep c.self.inside.depth c.self.inside.node c.self.invariant.shape).0

pub returns-clause-wide : goal.returns-clause-wide
returns-clause-wide g c = rw (← c.self.view_is) (deep c.self.inside.depth c.self.inside.node c.self.invariant.shape).1
