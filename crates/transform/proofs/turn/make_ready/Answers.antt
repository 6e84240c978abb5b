use Rattle.std.proofs.Common.{◌≡◌, ◌+◌, ◌<◌, ◌≤◌, take, sym, subst, arith}
use Rattle.std.proofs.lemmas.Result.{on_ok_weaker}
use Rattle.ew_model.specs.Touches.{touches}
use Rattle.ew_model.proofs.ListParts.{element_there}
use Rattle.transform.specs.Reaching.{StandsAt, over_since}
use Rattle.transform.proofs.KeptWalks.{first_ready, first_touched, later_reached}
use Rattle.transform.proofs.Loops.{ready_over}
use Rattle.transform.proofs.turn.make_ready.Goals as goal

pub returns-then-position-cut-clause-ready : goal.returns-then-position-cut-clause-ready
returns-then-position-cut-clause-ready g c = first_ready c.args.graph.now c.args.cut c.args.position c.args.state.now c.if-position-cut.true c.requires.within c.requires.walked

pub returns-then-position-cut-clause-steps : goal.returns-then-position-cut-clause-steps
returns-then-position-cut-clause-steps g c = λ from counts.
    let now = c.args.graph.now in
    let once = first_touched now c.args.cut c.args.position c.args.state.now c.if-position-cut.true c.count-count.ensures.admitted c.requires.within c.requires.walked in
    subst (λ k. c.args.steps.now + touches (take c.args.position now) k + 1 ≡ c.args.steps.now + touches (take (c.args.position + 1) now) k) (sym (counts.begins c.if-position-cut.true)) (omega (arith, once))

pub returns-then-position-cut-clause-most : goal.returns-then-position-cut-clause-most
returns-then-position-cut-clause-most g c = λ from counts.
    let now = c.args.graph.now in
    let once = first_touched now c.args.cut c.args.position c.args.state.now c.if-position-cut.true c.count-count.ensures.admitted c.requires.within c.requires.walked in
    subst (λ k. c.args.steps.now + touches (take c.args.position now) k + 1 ≤ c.args.steps.now + touches (take (c.args.position + 1) now) k) (sym (counts.begins c.if-position-cut.true)) (omega (arith, once))

pub prepare-requires-clause-reached : goal.prepare-requires-clause-reached
prepare-requires-clause-reached g c =
    let some : c.args.cut < c.args.position = omega (arith, c.requires.walked.behind.low, c.if-position-cut.false) in
    (c.args.cut, later_reached c.args.graph.now c.args.cut c.args.position c.args.state.now some c.requires.walked)

pub returns-else-position-cut-clause-ready : goal.returns-else-position-cut-clause-ready
returns-else-position-cut-clause-ready g c =
    let now = c.args.graph.now in
    let position = c.args.position in
    let cut = c.args.cut in
    let some : cut < position = omega (arith, c.requires.walked.behind.low, c.if-position-cut.false) in
    let found = element_there now position c.requires.within in
    on_ok_weaker c.prepare.result (λ (stands : StandsAt now cut position (over_since (take position now) cut found.0) c.prepare.new.state). ready_over now cut position found.0 c.prepare.new.state c.requires.walked.behind found.1 stands)
    (c.prepare.ensures.moved cut found.0 (later_reached now cut position c.args.state.now some c.requires.walked) found.1)

pub returns-else-position-cut-clause-steps : goal.returns-else-position-cut-clause-steps
returns-else-position-cut-clause-steps g c = λ from counts. c.prepare.ensures.steps from (counts.goes_on (omega (arith, c.requires.walked.behind.low, c.if-position-cut.false)))

pub returns-else-position-cut-clause-most : goal.returns-else-position-cut-clause-most
returns-else-position-cut-clause-most g c = λ from counts. c.prepare.ensures.most from (counts.goes_on (omega (arith, c.requires.walked.behind.low, c.if-position-cut.false)))
