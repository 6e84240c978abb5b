use Rattle.std.proofs.Common.{◌≡◌, Contains, subst, sym, ap, ◌∙◌}
use Rattle.order_tree.specs.Pairs.{Tree, labels, changed, SumsFit}
use Rattle.order_tree.specs.Whole.{tree_of, IsWhole}
use Rattle.order_tree.proofs.PairLaws.{has_label}
use Rattle.order_tree.proofs.ChangeLaws.{whole_changed}
use Rattle.order_tree.proofs.tree.OrderTree.change.Goals as goal

pub change-requires-clause-held : goal.change-requires-clause-held
change-requires-clause-held g c =
    let is : c.args.self.now ≡ c.in-Some.root = sym c.self.view_is ∙ ap tree_of c.in-Some.is in
    has_label c.in-Some.root.pairs c.args.label (subst (λ (t : Tree _). Contains (labels t.pairs) c.args.label) is c.requires.held)

pub invariant_of-self : goal.invariant_of-self
invariant_of-self g c =
    let is : c.args.self.now ≡ c.in-Some.root = sym c.self.view_is ∙ ap tree_of c.in-Some.is in
    let fit = subst (λ (t : Tree _). SumsFit g.R.Run (changed t.pairs c.args.label c.args.run)) is c.requires.fit in
    let whole = subst (λ (t : Tree _). IsWhole g.R.Run c.self.inside.runs t) (ap tree_of c.in-Some.is) c.self.invariant in
    whole_changed c.args.label c.args.run g.R.Run c.self.inside.runs c.in-Some.root c.change.new.self whole c.change.ensures.pairs c.change.ensures.depth fit
