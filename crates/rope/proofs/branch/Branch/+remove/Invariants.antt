use Rattle.rope.proofs.branch.Branch.+remove.Given as goal

abbrev pub decreases-remove : goal.decreases-remove
decreases-remove l = goal.size-remove l
