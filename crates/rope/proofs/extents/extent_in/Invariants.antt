use Rattle.std.proofs.Common.{◌≡◌, ◌≤◌, ◌*◌, take}
use Rattle.rope.specs.Extents.{extent}
use Rattle.rope.proofs.extents.extent_in.Given as goal

abbrev pub invariant-loop-ch : goal.invariant-loop-ch
invariant-loop-ch l = (l.extent ≡ extent l.measure (take l.ch-index l.chars)) × (l.extent ≤ 4 * l.ch-index)
