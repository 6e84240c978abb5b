use Rattle.std.proofs.Common.{◌≡◌, take}
use Rattle.order_tree.specs.Pairs.{total}
use Rattle.order_tree.specs.Parts.{all_pairs}
use Rattle.order_tree.proofs.count.effect_in.Given as goal

abbrev pub invariant-loop-part : goal.invariant-loop-part
invariant-loop-part g l = l.effect ≡ total g.R.Run.effect (all_pairs g.T.Part.pairs (take l.part-index l.parts))
