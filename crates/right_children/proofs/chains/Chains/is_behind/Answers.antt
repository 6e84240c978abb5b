use Rattle.std.proofs.Common.{◌≡◌, ◌-◌, Some, slice_get, length, sym, ◌∙◌, subst}
use Rattle.std.proofs.lemmas.Bool.{ltb-true}
use Rattle.right_children.specs.Chains.{AreInOrder}
use Rattle.right_children.proofs.ChainLaws.{all_below}
use Rattle.right_children.proofs.chains.Chains.is_behind.Goals as goal

pub returns-in-Some : goal.returns-in-Some
returns-in-Some c = λ lt.
    let last = c.in-Some.chain.now in
    let there = subst (λ cs. slice_get cs (length cs - 1) ≡ Some last) (c.deref.ensures.value ∙ c.self.view_is) (sym c.in-Some.ensures.value) in
    all_below c.args.self.now c.args.position last (subst (AreInOrder 0) c.self.view_is c.self.invariant) there (ltb-true _ _ lt)
