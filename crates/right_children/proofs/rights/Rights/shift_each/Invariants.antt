use Rattle.std.proofs.Common.{◌≤◌, ◌-◌, Bool, List}
use Rattle.ew_model.specs.declared.node.Node.{Node}
use Rattle.fugue_place.specs.declared.child.Attached.{Attached}
use Rattle.right_children.specs.Rights.{counted, AreRights, IsWhole, ShiftEach}
use Rattle.right_children.proofs.RightSpans.{so_far}
use Rattle.right_children.proofs.rights.Rights.shift_each.Given as goal

-- the counts are right where the events below the position are seen to
abbrev pub invariant-loop-at : goal.invariant-loop-at
invariant-loop-at l = record {
  low : l.from ≤ l.at;
  high : l.at ≤ l.to;
  whole : IsWhole l.self;
  rights : (old new : Node → Bool) (attached : List Attached) → AreRights old attached (counted l.fn.self) → ShiftEach old new attached l.from l.to l.was l.is
      → AreRights (so_far old new l.from l.at) attached (counted l.self);
}

abbrev pub decreases-loop-at : goal.decreases-loop-at
decreases-loop-at l = l.to - l.at
