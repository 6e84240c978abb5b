use Rattle.std.proofs.Common.{◌≡◌, ◌+◌, ◌<◌, take, drop}
use Rattle.order_tree.specs.Pairs.{total}
use Rattle.order_tree.specs.Parts.{all_pairs}
use Rattle.order_tree.specs.Counts.{count_of}
use Rattle.order_tree.proofs.count.part_at.Given as goal

abbrev pub invariant-loop-k : goal.invariant-loop-k
invariant-loop-k g l =
    (total (count_of g.R.Run l.count) (all_pairs g.T.Part.pairs (take l.k l.parts)) + l.rest ≡ l.i)
    × (l.rest < total (count_of g.R.Run l.count) (all_pairs g.T.Part.pairs (drop l.k l.parts)))
