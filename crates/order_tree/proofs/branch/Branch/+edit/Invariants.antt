use Rattle.order_tree.proofs.branch.Branch.+edit.Given as goal

abbrev pub decreases-edit : goal.decreases-edit
decreases-edit g l = goal.size-edit g l
