use Rattle.std.proofs.Common.{◌≡◌, ◌≤◌, take, vec_capacity}
use Rattle.rope.proofs.branch.Branch.+copy.Given as goal

abbrev pub invariant-loop-kid : goal.invariant-loop-kid
invariant-loop-kid l = (l.copies.items ≡ take l.kid-index l.kid-items) × (16 ≤ vec_capacity l.copies)

abbrev pub decreases-copy : goal.decreases-copy
decreases-copy l = goal.size-copy l
