use Rattle.std.proofs.Common.{◌≡◌, ◌+◌, take}
use Rattle.rope.specs.Extents.{extent}
use Rattle.rope.proofs.extents.reach_in.Given as goal

abbrev pub invariant-loop-i : goal.invariant-loop-i
invariant-loop-i l = extent l.measure (take l.i l.chars) + l.rest ≡ l.much
