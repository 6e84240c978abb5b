use Rattle.std.proofs.Common.{◌≡◌, ◌+◌, ◌<◌, take, drop}
use Rattle.order_tree.specs.Pairs.{total}
use Rattle.order_tree.specs.Parts.{all_pairs}
use Rattle.order_tree.proofs.count.visible_part.Given as goal

abbrev pub invariant-loop-k : goal.invariant-loop-k
invariant-loop-k g l =
    (total g.R.Run.prepared (all_pairs g.T.Part.pairs (take l.k l.parts)) + l.rest ≡ l.i)
    × (l.rest < total g.R.Run.prepared (all_pairs g.T.Part.pairs (drop l.k l.parts)))
    × (l.effect ≡ total g.R.Run.effect (all_pairs g.T.Part.pairs (take l.k l.parts)))
