use Rattle.std.proofs.Common.{refl, arith}
use Rattle.std.proofs.lemmas.Bool.{false≢true}
use Rattle.event_graph.proofs.Places.{event_among}
use Rattle.agreement.proofs.Shared.{all_shared}
use Rattle.agreement.proofs.sharing.holds_all.Goals as goal

pub returns-in-None : goal.returns-in-None
returns-in-None c = (
  (λ t. absurd (false≢true t)),
  (λ all. absurd (c.in-None.ensures.none (λ e at. all e (event_among c.args.a.now c.loop-position.position e at)))),
)

pub returns : goal.returns
returns c =
    let end = c.loop-position-test.false in
    let many = c.count.ensures.count in (
      (λ t. all_shared c.args.a.now c.args.b.now (λ p within. c.loop-position.invariant p (omega (arith, within, end, many)))),
      (λ all. refl),
    )
