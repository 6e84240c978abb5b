use Rattle.std.proofs.Common.{◌-◌, ◌≤◌, ◌<◌, slice_index_or}
use Rattle.order_tree.specs.Parts.{first_or_zero}
use Rattle.order_tree.proofs.part.count_up_to.Given as goal

abbrev pub invariant-loop-part : goal.invariant-loop-part
invariant-loop-part g l =
    (l.count ≤ l.part-index)
    × ((d : _) → 0 < l.count → first_or_zero (g.T.Part.pairs (slice_index_or l.parts (l.count - 1) d)) ≤ l.label)
    × ((d : _) → l.count < l.part-index → l.label < first_or_zero (g.T.Part.pairs (slice_index_or l.parts l.count d)))
