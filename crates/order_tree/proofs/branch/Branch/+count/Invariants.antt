use Rattle.order_tree.specs.Abouts.{IsCounting}
use Rattle.order_tree.proofs.branch.Branch.+count.Given as goal

abbrev pub decreases-count : goal.decreases-count
decreases-count g l = goal.size-count g l

abbrev pub invariant-loop-kid : goal.invariant-loop-kid
invariant-loop-kid g l = IsCounting l.kid-index l.kid-items l.count l.initial.visits l.visits
