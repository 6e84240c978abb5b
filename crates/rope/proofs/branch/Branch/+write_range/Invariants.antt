use Rattle.std.proofs.Common.{◌≡◌, ◌-◌, ◌++◌, length, take, drop, encode_utf8_all}
use Rattle.rope.specs.Nodes.{all_chars}
use Rattle.rope.proofs.branch.Branch.+write_range.Given as goal

abbrev pub invariant-loop-kid : goal.invariant-loop-kid
invariant-loop-kid l = (l.to.items ≡ l.initial.to.items ++ encode_utf8_all (take l.n (drop l.from (all_chars (take l.kid-index l.kid-items)))))
    × (l.before ≡ length l.initial.to.items)
    × (l.skip ≡ l.from - length (all_chars (take l.kid-index l.kid-items)))
    × (l.left ≡ l.n - (length (all_chars (take l.kid-index l.kid-items)) - l.from))

abbrev pub decreases-write_range : goal.decreases-write_range
decreases-write_range l = goal.size-write_range l
