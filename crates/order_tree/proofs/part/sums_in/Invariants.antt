use Rattle.std.proofs.Common.{◌≡◌, take}
use Rattle.order_tree.specs.Parts.{sums_of, all_pairs}
use Rattle.order_tree.proofs.part.sums_in.Given as goal

abbrev pub invariant-loop-part : goal.invariant-loop-part
invariant-loop-part g l = l.sums ≡ sums_of g.R.Run (all_pairs g.T.Part.pairs (take l.part-index l.parts))
