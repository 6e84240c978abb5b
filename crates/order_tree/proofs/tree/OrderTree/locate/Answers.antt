use Rattle.std.proofs.Common.{◌≡◌, Contains, subst, sym, ap, ◌∙◌}
use Rattle.order_tree.specs.Pairs.{Tree, labels}
use Rattle.order_tree.specs.Whole.{tree_of}
use Rattle.order_tree.proofs.PairLaws.{has_label}
use Rattle.order_tree.proofs.tree.OrderTree.locate.Goals as goal

pub locate-requires-clause-held : goal.locate-requires-clause-held
locate-requires-clause-held g c =
    let is : c.args.self.now ≡ c.in-Some.root = sym c.self.view_is ∙ ap tree_of c.in-Some.is in
    has_label c.in-Some.root.pairs c.args.label (subst (λ (t : Tree _). Contains (labels t.pairs) c.args.label) is c.requires)
