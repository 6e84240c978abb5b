use Rattle.std.proofs.Common.{◌≡◌, Contains, subst, sym, ap, ◌∙◌}
use Rattle.order_tree.specs.Pairs.{Tree, labels}
use Rattle.order_tree.specs.Whole.{tree_of, IsWhole}
use Rattle.order_tree.proofs.PairLaws.{has_label}
use Rattle.order_tree.proofs.AlterLaws.{AllFit, whole_taken}
use Rattle.order_tree.proofs.tree.OrderTree.alter.Goals as goal

pub alter-requires-clause-held : goal.alter-requires-clause-held
alter-requires-clause-held g c =
    let is : c.args.self.now ≡ c.in-Some.root = sym c.self.view_is ∙ ap tree_of c.in-Some.is in
    has_label c.in-Some.root.pairs c.args.label (subst (λ (t : Tree _). Contains (labels t.pairs) c.args.label) is c.requires.held)

pub invariant_of-self : goal.invariant_of-self
invariant_of-self g c =
    let is : c.args.self.now ≡ c.in-Some.root = sym c.self.view_is ∙ ap tree_of c.in-Some.is in
    let makes = g.A.Alteration.makes c.args.alteration.now in
    let fit = subst (λ (t : Tree _). AllFit g.R.Run makes c.args.label t.pairs) is c.requires.fit in
    let whole = subst (λ (t : Tree _). IsWhole g.R.Run c.self.inside.runs t) (ap tree_of c.in-Some.is) c.self.invariant in
    whole_taken g.R.Run makes c.args.label c.self.inside.runs c.in-Some.root c.alter.new.self c.alter.new.taken whole fit c.alter.ensures.depth c.alter.ensures.taken
