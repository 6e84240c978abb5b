use Rattle.std.proofs.Common.{◌≡◌, ◌≤◌, length, drop}
use Rattle.order_tree.specs.Parts.{last_known, all_pairs}
use Rattle.order_tree.proofs.part.last_known_in.Given as goal

abbrev pub invariant-loop-rest : goal.invariant-loop-rest
invariant-loop-rest g l = (l.rest ≤ length l.parts) × (last_known g.R.Run.known (all_pairs g.T.Part.pairs (drop l.rest l.parts)) ≡ 0)

abbrev pub decreases-loop-rest : goal.decreases-loop-rest
decreases-loop-rest g l = l.rest
