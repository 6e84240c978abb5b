use Rattle.order_tree.proofs.branch.Branch.+change.Given as goal

abbrev pub decreases-change : goal.decreases-change
decreases-change g l = goal.size-change g l
