use Rattle.std.proofs.Common.{◌≡◌, ◌++◌, take}
use Rattle.std.specs.List.{flat_map}
use Rattle.net_core.specs.Bytes.{escaped_byte}
use Rattle.net_core.proofs.lines.push_escaped.Given as goal

-- the bytes up to the index are printed
abbrev pub invariant-loop-byte : goal.invariant-loop-byte
invariant-loop-byte l = l.out.items ≡ l.initial.out.items ++ flat_map escaped_byte (take l.byte-index l.text)
