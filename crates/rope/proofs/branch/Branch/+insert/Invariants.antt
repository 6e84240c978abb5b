use Rattle.rope.proofs.branch.Branch.+insert.Given as goal

abbrev pub decreases-insert : goal.decreases-insert
decreases-insert l = goal.size-insert l
