use Rattle.std.proofs.Common.{◌≤◌, take}
use Rattle.order_tree.specs.Parts.{all_pairs, last_known}
use Rattle.order_tree.proofs.count.part_known_after.Given as goal

abbrev pub invariant-loop-k : goal.invariant-loop-k
invariant-loop-k g l = last_known g.R.Run.known (all_pairs g.T.Part.pairs (take l.k l.parts)) ≤ l.label
