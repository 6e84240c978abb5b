use Rattle.std.proofs.Common.{◌∙◌, ◌<◌, refl, sym, arith, subst, length}
use Rattle.stored_histories.specs.Giving.{HasGivenLast}
use Rattle.stored_histories.proofs.Giving.{behind_given, few_admitted}
use Rattle.stored_histories.proofs.give.give_singly.Goals as goal

pub loop-op-init : goal.loop-op-init
loop-op-init c = record { limits = refl; fewer = omega arith; given = λ found has. has }

pub go_on-requires-in-Some : goal.go_on-requires-in-Some
go_on-requires-in-Some c =
    let has = c.loop-op.invariant.given c.requires.given.0 c.requires.given.1 in
    let few = few_admitted _ c.requires.given.0 c.loop-op.given c.loop-op.reader c.args.given.now.limits.events has.3 in
    let next = c.in-Some.ensures.some.next.1 in
    record { room = subst (λ n. length c.loop-op.given.admitted < n.events) (sym c.loop-op.invariant.limits) (omega (arith, few, next)) }

pub loop-op-preserved : goal.loop-op-preserved
loop-op-preserved c = record {
  limits = c.go_on-in-Some.ensures.limits ∙ c.loop-op.invariant.limits;
  fewer = omega (arith, c.loop-op.invariant.fewer, c.in-Some.ensures.some.next.1);
  given = λ found has. behind_given c.in-Some.op found c.loop-op.given c.go_on-in-Some.new.self c.loop-op.reader c.go_on.new.self c.args.given.now.limits.events
      (c.loop-op.invariant.given found has) c.in-Some.ensures.some c.in_ok-go_on.ensures.given;
}

pub loop-op-smaller : goal.loop-op-smaller
loop-op-smaller c = omega (arith, c.in-Some.ensures.some.next.1)

pub returns-clause-given : goal.returns-clause-given
returns-clause-given c found has =
    subst (λ r. HasGivenLast found c.loop-op.given r c.args.given.now.limits.events) (sym c.in_default.ensures.none) (c.loop-op.invariant.given found has)
