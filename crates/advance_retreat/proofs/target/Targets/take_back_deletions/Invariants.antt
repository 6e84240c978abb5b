use Rattle.std.proofs.Common.{◌≡◌, ◌≤◌, ◌++◌, List}
use Rattle.advance_retreat.specs.declared.target.Target.{Target}
use Rattle.advance_retreat.specs.Kept.{deletion_targets}
use Rattle.advance_retreat.proofs.target.Targets.take_back_deletions.Given as goal

-- those that are left stand behind the others
abbrev pub invariant-loop-left : goal.invariant-loop-left
invariant-loop-left l = record {
  low : l.left ≤ l.count;
  rest : (ts : List Target) → l.fn.self ≡ ts ++ deletion_targets l.lv l.fn.node l.count → l.self ≡ ts ++ deletion_targets l.lv l.fn.node l.left;
}

abbrev pub decreases-loop-left : goal.decreases-loop-left
decreases-loop-left l = l.left
