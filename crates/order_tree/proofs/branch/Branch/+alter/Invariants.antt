use Rattle.order_tree.proofs.branch.Branch.+alter.Given as goal

abbrev pub decreases-alter : goal.decreases-alter
decreases-alter g l = goal.size-alter g l
