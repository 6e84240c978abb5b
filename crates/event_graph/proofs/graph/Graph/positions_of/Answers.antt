use Rattle.std.proofs.Common.{List, ℕ, subst}
use Rattle.std.specs.List.Sorted.{IsPermutation}
use Rattle.event_graph.proofs.Admitted.{laid}
use Rattle.event_graph.proofs.Found.{sorted_found}
use Rattle.event_graph.proofs.graph.Graph.positions_of.Goals as goal

pub returns : goal.returns
returns c =
    let now = c.args.self.now in
    let after = c.sort_unstable.new.self.items in
    sorted_found now c.args.ids.now after (laid now c.count-count.ensures.admitted) c.requires
    (subst (λ (xs : List ℕ). IsPermutation xs after) c.in_ok-positions.ensures c.sort_unstable.ensures.permutation) c.sort_unstable.ensures.sorted
