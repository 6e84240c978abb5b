use Rattle.std.proofs.Common.{◌≡◌, take, length}
use Rattle.rope.specs.Counts.{wide_chars, utf8_bytes}
use Rattle.rope.specs.Nodes.{all_chars, all_leaves}
use Rattle.rope.proofs.kids.sizes_in.Given as goal

abbrev pub invariant-loop-kid : goal.invariant-loop-kid
invariant-loop-kid l = (l.sizes.chars ≡ length (all_chars (take l.kid-index l.kids)))
    × (l.sizes.leaves ≡ all_leaves (take l.kid-index l.kids))
    × (l.sizes.wide ≡ wide_chars (all_chars (take l.kid-index l.kids)))
    × (l.sizes.bytes ≡ utf8_bytes (all_chars (take l.kid-index l.kids)))
