use Rattle.std.proofs.Common.{List, sym, ap, ◌∙◌}
use Rattle.order_tree.specs.Pairs.{Tree}
use Rattle.order_tree.specs.Parts.{last_known, all_pairs}
use Rattle.order_tree.specs.Shape.{pairs_in}
use Rattle.order_tree.proofs.PartLists.{entries_are}
use Rattle.order_tree.proofs.branch.Node.last_known_after.Goals as goal

pub returns-in-Leaf : goal.returns-in-Leaf
returns-in-Leaf g c =
    let there = ap pairs_in c.in-Leaf.is ∙ sym c.as_slice.ensures.value ∙ sym (entries_are c.as_slice.result.now) in
    c.last_known_in.ensures ∙ sym (ap (last_known g.R.Run.known) there)

pub returns-in-Inner : goal.returns-in-Inner
returns-in-Inner g c =
    let there = ap pairs_in c.in-Inner.is ∙ sym (ap (λ (ks : List (Tree _)). all_pairs (λ t. t.pairs) ks) c.as_slice-in-Inner.ensures.value) in
    c.last_known_in-in-Inner.ensures ∙ sym (ap (last_known g.R.Run.known) there)
