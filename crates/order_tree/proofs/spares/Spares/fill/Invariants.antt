use Rattle.std.proofs.Common.{◌≡◌, ◌+◌, ◌-◌, ◌≤◌}
use Rattle.order_tree.proofs.spares.Spares.fill.Given as goal

abbrev pub invariant-loop-done : goal.invariant-loop-done
invariant-loop-done g l = (l.self ≡ l.initial.self + l.done) × (l.done ≤ l.many)

abbrev pub decreases-loop-done : goal.decreases-loop-done
decreases-loop-done g l = l.many - l.done
