use Rattle.std.proofs.Common.{sym, ◌∙◌, subst}
use Rattle.std.specs.Prelude.{IfNone}
use Rattle.agreement.specs.Sharing.{IsShared}
use Rattle.agreement.proofs.Shared.{found_told, none_shared}
use Rattle.agreement.proofs.sharing.shared_to.Goals as goal

pub same_to-requires-clause-found : goal.same_to-requires-clause-found
same_to-requires-clause-found c = found_told c.args.a.now c.args.b.now c.args.position c.in_ok-other.other c.id_near.result c.id_near.ensures (sym c.find.ensures.value ∙ c.in_ok-other.was)

pub returns-in_err-other-clause-none : goal.returns-in_err-other-clause-none
returns-in_err-other-clause-none c =
    let a = c.args.a.now in
    let b = c.args.b.now in
    let p = c.args.position in
    subst (λ o. IfNone o (IsShared a p b → ⊥)) (sym c.from_residual.ensures)
    (none_shared a b p c.id_near.result c.requires.within c.id_near.ensures (sym c.find.ensures.value ∙ c.in_err-other.was))
