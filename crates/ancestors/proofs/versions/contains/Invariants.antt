use Rattle.std.proofs.Common.{nat_eq, length, reverse}
use Rattle.ew_model.specs.Graph.{is_named}
use Rattle.ew_model.proofs.PositionWalk.{taken}
use Rattle.ancestors.proofs.Walks.{Seeking}
use Rattle.ancestors.proofs.versions.contains.Given as goal

abbrev pub invariant-loop-n : goal.invariant-loop-n
invariant-loop-n g l = Seeking (g.G.Parentage.parents l.g) l.version l.lv (is_named nat_eq l.pending)

abbrev pub decreases-loop-n : goal.decreases-loop-n
decreases-loop-n g l = length (taken (reverse (g.G.Parentage.parents l.g)) (is_named nat_eq l.pending))
