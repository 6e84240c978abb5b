use Rattle.std.proofs.Common.{◌≡◌, ◌+◌, ◌-◌, arith}
use Rattle.ew_model.proofs.ListParts.{element_there}
use Rattle.transform.proofs.Sides.{over_last}
use Rattle.transform.proofs.Turning.{arrived_already, cost_unmoved}
use Rattle.transform.proofs.turn.prepare.Goals as goal

pub follows-requires-clause-some : goal.follows-requires-clause-some
follows-requires-clause-some g c = omega (arith, c.requires.reached.1.some)

pub returns-then-follows-clause-moved : goal.returns-then-follows-clause-moved
returns-then-follows-clause-moved g c = λ cut e reached at.
    let now = c.args.graph.now in
    let position = c.args.position in
    let next : position - 1 + 1 ≡ position = omega (arith, reached.some) in
    let same = over_last now position (position - 1) e c.count-count.ensures.admitted next c.requires.within at (c.follows.ensures.0 c.if-follows.true) in
    arrived_already now cut position e c.args.state.now c.count-count.ensures.admitted c.count-count.ensures.sound at reached same

pub returns-then-follows-clause-steps : goal.returns-then-follows-clause-steps
returns-then-follows-clause-steps g c = λ from some.
    let now = c.args.graph.now in
    let position = c.args.position in
    let found = element_there now position c.requires.within in
    let next : position - 1 + 1 ≡ position = omega (arith, some) in
    let same = over_last now position (position - 1) found.0 c.count-count.ensures.admitted next c.requires.within found.1 (c.follows.ensures.0 c.if-follows.true) in
    omega (arith, cost_unmoved now position from found.0 c.count-count.ensures.admitted found.1 some same)

pub returns-then-follows-clause-most : goal.returns-then-follows-clause-most
returns-then-follows-clause-most g c = λ from some.
    let now = c.args.graph.now in
    let position = c.args.position in
    let found = element_there now position c.requires.within in
    let next : position - 1 + 1 ≡ position = omega (arith, some) in
    let same = over_last now position (position - 1) found.0 c.count-count.ensures.admitted next c.requires.within found.1 (c.follows.ensures.0 c.if-follows.true) in
    omega (arith, cost_unmoved now position from found.0 c.count-count.ensures.admitted found.1 some same)
