use Rattle.std.proofs.Common.{◌≡◌, ℕ, ◌+◌, ◌<◌, Some, slice_get}
use Rattle.replica.proofs.offered.neighbours.Given as goal

-- the positions before this place are those
abbrev pub invariant-loop-count : goal.invariant-loop-count
invariant-loop-count l = (k : ℕ) → k < l.count → slice_get l.positions k ≡ Some (l.first + k)
