use Rattle.std.proofs.Common.{◌≡◌, ◌≤◌, ◌++◌, List}
use Rattle.advance_retreat.specs.declared.target.Target.{Target}
use Rattle.advance_retreat.specs.Kept.{typed_targets}
use Rattle.advance_retreat.proofs.target.Targets.take_back_typed.Given as goal

-- those that are left stand behind the others
abbrev pub invariant-loop-left : goal.invariant-loop-left
invariant-loop-left l = record {
  low : l.left ≤ l.count;
  rest : (ts : List Target) → l.fn.self ≡ ts ++ typed_targets l.newest l.count → l.self ≡ ts ++ typed_targets l.newest l.left;
}

abbrev pub decreases-loop-left : goal.decreases-loop-left
decreases-loop-left l = l.left
