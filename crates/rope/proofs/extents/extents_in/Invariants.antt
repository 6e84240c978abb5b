use Rattle.std.proofs.Common.{◌≡◌, ◌≤◌, ◌*◌, take}
use Rattle.rope.specs.Counts.{wide_chars, utf8_bytes}
use Rattle.rope.proofs.extents.extents_in.Given as goal

abbrev pub invariant-loop-ch : goal.invariant-loop-ch
invariant-loop-ch l = (l.wide ≡ wide_chars (take l.ch-index l.chars)) × (l.bytes ≡ utf8_bytes (take l.ch-index l.chars)) × (l.wide ≤ l.ch-index) × (l.bytes ≤ 4 * l.ch-index)
