use Rattle.std.proofs.Common.{◌≡◌, ◌+◌, ◌<◌, length, take}
use Rattle.rope.specs.Nodes.{all_chars}
use Rattle.rope.proofs.kids.kid_open.Given as goal

abbrev pub invariant-loop-k : goal.invariant-loop-k
invariant-loop-k l = (length (all_chars (take l.k l.kids)) + l.rest ≡ l.at) × (l.k < length l.kids)
