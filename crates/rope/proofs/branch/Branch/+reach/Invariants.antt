use Rattle.std.proofs.Common.{◌≡◌, ◌+◌, length, take}
use Rattle.rope.specs.Extents.{extent}
use Rattle.rope.specs.Nodes.{all_chars}
use Rattle.rope.proofs.branch.Branch.+reach.Given as goal

abbrev pub invariant-loop-kid : goal.invariant-loop-kid
invariant-loop-kid l = (extent l.measure (all_chars (take l.kid-index l.kid-items)) + l.rest ≡ l.much) × (l.before ≡ length (all_chars (take l.kid-index l.kid-items)))

abbrev pub decreases-reach : goal.decreases-reach
decreases-reach l = goal.size-reach l
