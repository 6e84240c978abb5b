use Rattle.std.proofs.Common.{◌≡◌, ◌+◌, length, take}
use Rattle.rope.specs.Extents.{extent}
use Rattle.rope.specs.Nodes.{all_chars}
use Rattle.rope.proofs.branch.Branch.+extent_before.Given as goal

abbrev pub invariant-loop-kid : goal.invariant-loop-kid
invariant-loop-kid l = (length (all_chars (take l.kid-index l.kid-items)) + l.rest ≡ l.at) × (l.before ≡ extent l.measure (all_chars (take l.kid-index l.kid-items)))

abbrev pub decreases-extent_before : goal.decreases-extent_before
decreases-extent_before l = goal.size-extent_before l
