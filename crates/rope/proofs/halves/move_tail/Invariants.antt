use Rattle.std.proofs.Common.{◌≡◌, ◌++◌, ◌≤◌, length, reverse, vec_len, vec_capacity}
use Rattle.rope.proofs.halves.move_tail.Given as goal

abbrev pub invariant-loop-from : goal.invariant-loop-from
invariant-loop-from l =
    (l.from.items ++ reverse l.to.items ≡ l.initial.from.items)
    × (l.at ≤ length l.from.items)
    × (length l.initial.from.items ≤ vec_capacity l.to)
    × (vec_capacity l.initial.to ≤ vec_capacity l.to)
    × (vec_capacity l.initial.from ≤ vec_capacity l.from)

abbrev pub decreases-loop-from : goal.decreases-loop-from
decreases-loop-from l = vec_len l.from
