use Rattle.std.proofs.Common.{◌≡◌, ◌-◌, ◌<◌, arith, ◌∙◌, sym}
use Rattle.order_tree.proofs.PartLists.{known_from, known_all}
use Rattle.order_tree.proofs.part.last_known_in.Goals as goal

pub returns-then-last-gt0 : goal.returns-then-last-gt0
returns-then-last-gt0 g c =
    let some : 0 < c.last_known-last.result = c.if-last-gt0.true in
    known_all g.T.Part.pairs g.R.Run.known c.args.parts.now (c.loop-rest.rest - 1) c.last_known-last.result
    (known_from g.T.Part.pairs g.R.Run.known c.args.parts.now c.loop-rest.rest c.index-parts-rest.result c.loop-rest-test.true c.loop-rest.invariant.0 c.index-parts-rest.is c.loop-rest.invariant.1 ∙ sym c.last_known-last.ensures)
    some

pub loop-rest-preserved : goal.loop-rest-preserved
loop-rest-preserved g c =
    let none : c.last_known-last.result ≡ 0 = omega (arith, c.if-last-gt0.false) in (
      omega (arith, c.loop-rest.invariant.0),
      known_from g.T.Part.pairs g.R.Run.known c.args.parts.now c.loop-rest.rest c.index-parts-rest.result c.loop-rest-test.true c.loop-rest.invariant.0 c.index-parts-rest.is c.loop-rest.invariant.1 ∙ sym c.last_known-last.ensures ∙ none,
    )
