use Rattle.std.proofs.Common.{◌+◌, length, reverse}
use Rattle.ew_model.proofs.PositionWalk.{taken}
use Rattle.ancestors.specs.Sides.{on_left, on_right}
use Rattle.ancestors.specs.Spans.{positions_of, AreDescending}
use Rattle.ancestors.proofs.Differences.{Parting}
use Rattle.ancestors.proofs.difference.diff.Given as goal

abbrev pub invariant-loop-n : goal.invariant-loop-n
invariant-loop-n g l =
    Parting (g.G.Parentage.parents l.g) l.a l.b (on_left l.sides) (on_right l.sides) (positions_of l.left) (positions_of l.right)
    × AreDescending l.left
    × AreDescending l.right

abbrev pub decreases-loop-n : goal.decreases-loop-n
decreases-loop-n g l =
    length (taken (reverse (g.G.Parentage.parents l.g)) (on_left l.sides)) + length (taken (reverse (g.G.Parentage.parents l.g)) (on_right l.sides))
