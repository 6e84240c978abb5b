use Rattle.std.proofs.Common.{◌≡◌, ◌+◌, ◌≤◌, ◌^◌, ◌<◌, length}
use Rattle.rope.specs.Deletions.{without}
use Rattle.rope.specs.Whole.{chars_of_root, IsRoot}
use Rattle.rope.proofs.root.remove_chars.Given as goal

-- what is left to take out leaves of the text so far what all leaves of the first
abbrev pub invariant-loop-left : goal.invariant-loop-left
invariant-loop-left l = (without (chars_of_root l.root) l.at l.left ≡ without (chars_of_root l.initial.root) l.at l.many)
    × (l.at + l.left ≤ length (chars_of_root l.root))
    × (length (chars_of_root l.root) < 2 ^ 32)
    × IsRoot l.root

abbrev pub decreases-loop-left : goal.decreases-loop-left
decreases-loop-left l = l.left
