use Rattle.std.proofs.Common.{sym, ◌∙◌, subst, arith}
use Rattle.agreement.specs.Sharing.{AreSharedTo, Fits, FitTo, IsShared}
use Rattle.agreement.proofs.Answered.{some_so, none_so}
use Rattle.agreement.proofs.Consistent.{all_fitting, shared_where_found, unknown_fits}
use Rattle.agreement.proofs.Shared.{found_told}
use Rattle.agreement.proofs.sharing.fitting_to.Goals as goal

pub same_to-requires-clause-found : goal.same_to-requires-clause-found
same_to-requires-clause-found c = found_told c.args.a.now c.args.b.now c.args.position c.in-Some.other c.id_near.result c.id_near.ensures (sym c.find.ensures.value ∙ c.in-Some.is)

pub returns-in-Some-clause-some : goal.returns-in-Some-clause-some
returns-in-Some-clause-some c =
    let a = c.args.a.now in
    let b = c.args.b.now in
    let p = c.args.position in
    some_so c.same_to.result (λ next. AreSharedTo a p next b) (λ next. FitTo a p next b) (λ next. all_fitting a p next b) c.same_to.ensures.some

pub returns-in-Some-clause-none : goal.returns-in-Some-clause-none
returns-in-Some-clause-none c =
    let a = c.args.a.now in
    let b = c.args.b.now in
    let p = c.args.position in
    none_so c.same_to.result (IsShared a p b) (Fits a p b)
    (shared_where_found a b p c.in-Some.other c.id_near.result c.requires.within c.id_near.ensures (sym c.find.ensures.value ∙ c.in-Some.is)) c.same_to.ensures.none

pub returns-in-None-clause-some : goal.returns-in-None-clause-some
returns-in-None-clause-some c =
    let a = c.args.a.now in
    let b = c.args.b.now in
    let fits = unknown_fits a b c.args.position c.id_near.result c.id_near.ensures (sym c.find.ensures.value ∙ c.in-None.is) in
    let within = c.requires.within in
    (omega arith, omega (arith, within), (λ r low high. subst (λ i. Fits a i b) (omega (arith, low, high)) fits))
