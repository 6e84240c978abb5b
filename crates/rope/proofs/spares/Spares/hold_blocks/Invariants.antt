use Rattle.std.proofs.Common.{◌≡◌, ◌-◌, ◌≤◌}
use Rattle.rope.proofs.spares.Spares.hold_blocks.Given as goal

abbrev pub invariant-loop-have : goal.invariant-loop-have
invariant-loop-have l = (l.have ≡ l.self.nodes) × (l.initial.self.nodes ≤ l.self.nodes) × (l.self.leaves ≡ l.initial.self.leaves)

abbrev pub decreases-loop-have : goal.decreases-loop-have
decreases-loop-have l = l.many - l.have
