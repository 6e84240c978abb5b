use Rattle.rope.proofs.branch.Branch.+char_at.Given as goal

abbrev pub decreases-char_at : goal.decreases-char_at
decreases-char_at l = goal.size-char_at l
