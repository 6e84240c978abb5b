use Rattle.std.proofs.Common.{sym, subst}
use Rattle.std.specs.Prelude.{IfSome, IfNone}
use Rattle.agreement.specs.Sharing.{AreSharedTo, IsShared}
use Rattle.agreement.proofs.GoingOn.{found_there, shared_up_to}
use Rattle.agreement.proofs.Answered.{some_where, none_where}
use Rattle.agreement.proofs.Shared.{shared_parents, told}
use Rattle.agreement.proofs.sharing.same_to.Goals as goal

pub returns-in-Some-clause-some : goal.returns-in-Some-clause-some
returns-in-Some-clause-some c =
    let a = c.args.a.now in
    let b = c.args.b.now in
    let p = c.args.one in
    let q = c.args.other in
    let id = told a p c.requires.within_a in
    let found = c.requires.found id.0 id.1 in
    subst (λ o. IfSome o (λ next. AreSharedTo a p next b)) (sym c.then_some.ensures)
    (some_where c.have_same_parents.result _ (λ next. AreSharedTo a p next b)
    (λ t. shared_up_to a b p q c.in-Some.count id.0 c.requires.admitted_a c.requires.admitted_b id.1 (found_there b id.0 q found) c.in-Some.ensures (c.have_same_parents.ensures.0 t)))

pub returns-in-Some-clause-none : goal.returns-in-Some-clause-none
returns-in-Some-clause-none c =
    let a = c.args.a.now in
    let b = c.args.b.now in
    let p = c.args.one in
    let q = c.args.other in
    let id = told a p c.requires.within_a in
    let found = c.requires.found id.0 id.1 in
    subst (λ o. IfNone o (IsShared a p b → ⊥)) (sym c.then_some.ensures)
    (none_where c.have_same_parents.result _ (IsShared a p b)
    (λ shared. c.have_same_parents.ensures.1 (shared_parents a b p q id.0 c.requires.within_a c.requires.admitted_b id.1 found shared)))
