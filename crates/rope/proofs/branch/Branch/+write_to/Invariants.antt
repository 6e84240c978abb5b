use Rattle.std.proofs.Common.{◌≡◌, ◌++◌, take, length, encode_utf8_all}
use Rattle.rope.specs.Nodes.{all_chars}
use Rattle.rope.proofs.branch.Branch.+write_to.Given as goal

abbrev pub invariant-loop-kid : goal.invariant-loop-kid
invariant-loop-kid l = (l.to.items ≡ l.initial.to.items ++ encode_utf8_all (all_chars (take l.kid-index l.kid-items))) × (l.before ≡ length l.initial.to.items)

abbrev pub decreases-write_to : goal.decreases-write_to
decreases-write_to l = goal.size-write_to l
