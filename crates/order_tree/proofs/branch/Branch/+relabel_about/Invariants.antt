use Rattle.order_tree.proofs.branch.Branch.+relabel_about.Given as goal

abbrev pub decreases-relabel_about : goal.decreases-relabel_about
decreases-relabel_about g l = goal.size-relabel_about g l
