use Rattle.std.proofs.Common.{◌≡◌, ◌≤◌, sym, ap, ◌∙◌, arith, subst}
use Rattle.order_tree.specs.Pairs.{Tree, lower, IsRising}
use Rattle.order_tree.specs.Parts.{first_or_zero}
use Rattle.order_tree.specs.Whole.{tree_of}
use Rattle.order_tree.proofs.PairLaws.{lower_from}
use Rattle.order_tree.proofs.tree.OrderTree.ahead.Goals as goal
use Rattle.order_tree.proofs.tree.OrderTree.ahead.Goals.{in_default-via-in-Some+else-first-label, in_default-via-in_default}

pub returns-in_default-clause-none : goal.returns-in_default-clause-none
returns-in_default-clause-none g c =
    elim c.in_default.branch [
      | in_default-via-in-Some+else-first-label w ↦
          let is : c.args.self.now ≡ w.in-Some.root = sym c.self.view_is ∙ ap tree_of w.in-Some.is in
          let same = ap (λ (t : Tree _). first_or_zero t.pairs) is in
          let le : c.args.label ≤ first_or_zero c.args.self.now.pairs = omega (arith, same, w.first.ensures, w.if-first-label.false) in
          lower_from c.args.label c.args.self.now.pairs (subst (λ (t : Tree _). IsRising t.pairs) c.self.view_is c.self.invariant.rising) le
      | in_default-via-in_default w ↦ ap (λ (t : Tree _). lower t.pairs c.args.label) (sym c.self.view_is ∙ ap tree_of w.in_default.is)
    ]
