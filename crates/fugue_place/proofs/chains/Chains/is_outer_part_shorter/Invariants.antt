use Rattle.std.proofs.Common.{◌+◌, ◌<◌, ◌-◌, length}
use Rattle.fugue_place.proofs.chains.Chains.is_outer_part_shorter.Given as goal

abbrev pub invariant-loop-k : goal.invariant-loop-k
invariant-loop-k l = (l.outer + 1 < length l.self.outer.items) × (l.inner + 1 < length l.self.outer.items)

abbrev pub decreases-loop-k : goal.decreases-loop-k
decreases-loop-k l = length l.self.outer.items - l.outer
