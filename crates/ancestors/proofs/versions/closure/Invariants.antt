use Rattle.std.proofs.Common.{nat_eq, length, reverse}
use Rattle.ew_model.specs.Graph.{is_named}
use Rattle.ew_model.proofs.PositionWalk.{taken}
use Rattle.ancestors.specs.Spans.{positions_of, AreDescending}
use Rattle.ancestors.proofs.Walks.{Closing}
use Rattle.ancestors.proofs.versions.closure.Given as goal

abbrev pub invariant-loop-n : goal.invariant-loop-n
invariant-loop-n g l = Closing (g.G.Parentage.parents l.g) l.version (is_named nat_eq l.pending) (positions_of l.found) × AreDescending l.found

abbrev pub decreases-loop-n : goal.decreases-loop-n
decreases-loop-n g l = length (taken (reverse (g.G.Parentage.parents l.g)) (is_named nat_eq l.pending))
