use Rattle.std.proofs.Common.{◌≡◌, ℕ, ◌&&◌, nat_eq, nat_le, flat_map, take, drop, length, reverse}
use Rattle.ew_model.specs.Graph.{is_named}
use Rattle.ew_model.specs.Positions.{parents_at}
use Rattle.ew_model.proofs.PositionWalk.{taken}
use Rattle.ancestors.proofs.Walks.{Comparing}
use Rattle.ancestors.proofs.versions.is_reduced.Given as goal

abbrev pub invariant-loop-position : goal.invariant-loop-position
invariant-loop-position g l = (q : ℕ) → is_named nat_eq l.pending q ≡ (nat_le l.lowest q && is_named nat_eq (flat_map (parents_at (g.G.Parentage.parents l.g)) (take l.position-index l.others)) q)

abbrev pub invariant-loop-n : goal.invariant-loop-n
invariant-loop-n g l = Comparing (g.G.Parentage.parents l.g) l.parents (drop 1 l.parents) (is_named nat_eq l.pending)

abbrev pub decreases-loop-n : goal.decreases-loop-n
decreases-loop-n g l = length (taken (reverse (g.G.Parentage.parents l.g)) (is_named nat_eq l.pending))
