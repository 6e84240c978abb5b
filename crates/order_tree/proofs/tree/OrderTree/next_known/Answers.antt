use Rattle.std.proofs.Common.{◌≡◌, ◌≤◌, sym, ap, ◌∙◌, arith, subst}
use Rattle.order_tree.specs.Pairs.{Tree, first_label, IsRising}
use Rattle.order_tree.specs.Parts.{last_known}
use Rattle.order_tree.specs.Whole.{tree_of}
use Rattle.order_tree.proofs.Around.{none_after}
use Rattle.order_tree.proofs.tree.OrderTree.next_known.Goals as goal

pub returns-in_default-clause-next : goal.returns-in_default-clause-next
returns-in_default-clause-next g c =
    let is : c.args.self.now ≡ c.in-Some.root = sym c.self.view_is ∙ ap tree_of c.in-Some.is in
    let same = ap (λ (t : Tree _). last_known g.R.Run.known t.pairs) is in
    let le : last_known g.R.Run.known c.args.self.now.pairs ≤ c.args.label = omega (arith, same, c.last_known.ensures, c.if-label-last_known.false) in
    sym (ap first_label (none_after g.R.Run.known 0 c.args.label c.args.self.now.pairs (subst (λ (t : Tree _). IsRising t.pairs) c.self.view_is c.self.invariant.rising) le))
