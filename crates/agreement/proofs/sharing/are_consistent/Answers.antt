use Rattle.std.proofs.Common.{refl, arith}
use Rattle.std.proofs.lemmas.Bool.{false≢true}
use Rattle.agreement.proofs.Consistent.{each_fits, one_each}
use Rattle.agreement.proofs.sharing.are_consistent.Goals as goal

pub returns-in-None : goal.returns-in-None
returns-in-None c = (
  (λ t. absurd (false≢true t)),
  (λ one. absurd (c.in-None.ensures.none (each_fits c.args.a.now c.args.b.now one c.loop-position.position))),
)

pub returns : goal.returns
returns c =
    let end = c.loop-position-test.false in
    let many = c.count.ensures.count in (
      (λ t. one_each c.args.a.now c.args.b.now c.count.ensures.admitted c.count-count.ensures.admitted (λ p within. c.loop-position.invariant p (omega (arith, within, end, many)))),
      (λ one. refl),
    )
