use Rattle.std.proofs.Common.{◌∙◌, subst}
use Rattle.std.proofs.lemmas.Option.{IfSome_then}
use Rattle.right_children.specs.Chains.{AreInOrder, IsHeldBy}
use Rattle.right_children.proofs.ChainLaws.{tells}
use Rattle.right_children.proofs.chains.Chains.find.Goals as goal

pub returns-clause-some : goal.returns-clause-some
returns-clause-some c = IfSome_then c.chain_at.result c.chain_at.ensures.some (λ d held.
    tells c.args.self.now c.args.position d (subst (AreInOrder 0) c.self.view_is c.self.invariant) (subst (λ cs. IsHeldBy cs c.args.position d) (c.deref-2.ensures.value ∙ c.self.view_is) held))
