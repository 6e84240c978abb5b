use Rattle.std.proofs.Common.{◌≡◌, ◌++◌, take, length, encode_utf8_all}
use Rattle.rope.proofs.leaf.write_chars.Given as goal

abbrev pub invariant-loop-ch : goal.invariant-loop-ch
invariant-loop-ch l = (l.to.items ≡ l.initial.to.items ++ encode_utf8_all (take l.ch-index l.chars)) × (l.before ≡ length l.initial.to.items)
