use Rattle.std.proofs.Common.{List, [], sym, subst, arith}
use Rattle.advance_retreat.specs.declared.target.Target.{Target}
use Rattle.advance_retreat.specs.Kept.{Kept}
use Rattle.advance_retreat.specs.Refusals.{FewLoose}
use Rattle.advance_retreat.specs.Standing.{StandsFor}
use Rattle.advance_retreat.proofs.BaseStates.{base_stands}
use Rattle.advance_retreat.proofs.LooseEvents.{base_few}
use Rattle.advance_retreat.proofs.state.State.base.Goals as goal

pub invariant_of-result : goal.invariant_of-result
invariant_of-result c = subst (λ (ts : List Target). FewLoose ts c.in_ok-base.field-0.runs 0) (sym c.new.ensures) (base_few c.in_ok-base.field-0.runs c.in_ok-base.ensures.few)

pub returns-clause-stands : goal.returns-clause-stands
returns-clause-stands c =
    let len = c.args.len in
    subst (λ (s : Kept). StandsFor s len [] [])
    (λ i. record { base = len; records = sym c.in_ok-base.ensures.records i; attached = sym c.in_ok-base.ensures.attached i; targets = sym c.new.ensures i; lost = 0 })
    (base_stands len (omega (arith, c.if-len-gt-MOST.false)))
