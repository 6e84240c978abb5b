use Rattle.std.proofs.Common.{◌≡◌, ◌≤◌, ◌-◌, ◌++◌}
use Rattle.advance_retreat.specs.Kept.{deletion_targets}
use Rattle.advance_retreat.proofs.target.Targets.add_deletions.Given as goal

abbrev pub invariant-loop-place : goal.invariant-loop-place
invariant-loop-place l = record {
  low : l.place ≤ l.count;
  added : l.self ≡ l.fn.self ++ deletion_targets l.lv l.node l.place;
}

abbrev pub decreases-loop-place : goal.decreases-loop-place
decreases-loop-place l = l.count - l.place
