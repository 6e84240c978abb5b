use Rattle.std.proofs.Common.{◌≡◌, ◌+◌, ◌≤◌, ◌∙◌, suc, List, length, take, drop, refl, ap, subst, arith}
use Rattle.std.proofs.lemmas.List.{take_all}
use Rattle.ew_model.specs.declared.event.Event.{Event}
use Rattle.ew_model.specs.Operations.{operations}
use Rattle.ew_model.specs.Touches.{touches}
use Rattle.transform.specs.Reaching.{GoesFrom}
use Rattle.transform.specs.Running.{GoesTo, emitted_to, judged_to, walked_to}
use Rattle.transform.proofs.KeptWalks.{counts_on, reached_goes}
use Rattle.transform.proofs.Loops.{first_outside, none_outside, starts_empty, touched}
use Rattle.transform.proofs.kept.walk_on.Goals as goal

pub loop-next-init : goal.loop-next-init
loop-next-init g c = record {
  low = omega arith;
  high = c.requires.within;
  walked = c.requires.walked;
  emitted = starts_empty c.args.graph.now c.args.position c.args.emit_from c.new-ops.result c.requires.within c.requires.emit c.new-ops.ensures;
  steps = λ from counts. refl;
}

pub go_turns-requires-clause-walked : goal.go_turns-requires-clause-walked
go_turns-requires-clause-walked g c = c.loop-next.invariant.walked

pub loop-next-preserved : goal.loop-next-preserved
loop-next-preserved g c =
    let now = c.args.graph.now in
    let cut = c.args.cut in
    let inv = c.loop-next.invariant in
    let turned = subst (GoesTo now cut c.loop-next.next (length now) c.go_turns.new.state) c.in-To.is c.in_ok-position.ensures.turned in
    let further = turned.0 in
    record {
      low = omega (arith, inv.low, further);
      high = turned.1;
      walked = reached_goes now cut c.in-To.position c.go_turns.new.state turned.2;
      emitted = c.in_ok-position.ensures.emitted ∙ ap (λ t. emitted_to now c.args.emit_from (walked_to t)) c.in-To.is;
      steps = λ from counts.
          let on = counts_on cut c.args.position c.loop-next.next from c.requires.walked.behind.low inv.low counts in
          omega (arith, c.in_ok-position.ensures.steps from on, inv.steps from counts, ap (λ t. touches (take (judged_to t) now) from) c.in-To.is);
    }

pub loop-next-smaller : goal.loop-next-smaller
loop-next-smaller g c =
    let turned = subst (GoesTo c.args.graph.now c.args.cut c.loop-next.next (length c.args.graph.now) c.go_turns.new.state) c.in-To.is c.in_ok-position.ensures.turned in
    let further = turned.0 in
    let high = turned.1 in
    omega (arith, further, high)

pub returns-in_err-position-clause-most : goal.returns-in_err-position-clause-most
returns-in_err-position-clause-most g c = λ from counts.
    let inv = c.loop-next.invariant in
    let on = counts_on c.args.cut c.args.position c.loop-next.next from c.requires.walked.behind.low inv.low counts in
    omega (arith, c.go_turns.ensures.most from on, inv.steps from counts)

-- an event that is out of range
pub returns-in-OutOfRange-clause-stopped : goal.returns-in-OutOfRange-clause-stopped
returns-in-OutOfRange-clause-stopped g c =
    let turned = subst (GoesTo c.args.graph.now c.args.cut c.loop-next.next (length c.args.graph.now) c.go_turns.new.state) c.in-OutOfRange.is c.in_ok-position.ensures.turned in
    first_outside c.args.graph.now c.in-OutOfRange.position c.in-OutOfRange.len turned.1 turned.2 turned.3.0

pub returns-in-OutOfRange-clause-ops : goal.returns-in-OutOfRange-clause-ops
returns-in-OutOfRange-clause-ops g c = c.in_ok-position.ensures.emitted ∙ ap (λ t. emitted_to c.args.graph.now c.args.emit_from (walked_to t)) c.in-OutOfRange.is

pub returns-in-OutOfRange-clause-touches : goal.returns-in-OutOfRange-clause-touches
returns-in-OutOfRange-clause-touches g c = λ from counts.
    let now = c.args.graph.now in
    let inv = c.loop-next.invariant in
    let on = counts_on c.args.cut c.args.position c.loop-next.next from c.requires.walked.behind.low inv.low counts in
    let next : c.in-OutOfRange.position + 1 ≡ suc c.in-OutOfRange.position = omega arith in
    omega (arith, c.in_ok-position.ensures.steps from on, inv.steps from counts, ap (λ t. touches (take (judged_to t) now) from) c.in-OutOfRange.is, ap (λ k. touches (take k now) from) next)

pub returns-in-OutOfRange-clause-most : goal.returns-in-OutOfRange-clause-most
returns-in-OutOfRange-clause-most g c = λ from counts.
    let inv = c.loop-next.invariant in
    let on = counts_on c.args.cut c.args.position c.loop-next.next from c.requires.walked.behind.low inv.low counts in
    omega (arith, c.go_turns.ensures.most from on, inv.steps from counts)

-- all were walked
pub returns-clause-stopped : goal.returns-clause-stopped
returns-clause-stopped g c =
    let inv = c.loop-next.invariant in
    none_outside c.args.graph.now c.loop-next.next (omega (arith, c.loop-next-test.false, c.count-count.ensures.count, inv.high)) inv.walked.behind.good

pub returns-clause-ops : goal.returns-clause-ops
returns-clause-ops g c =
    let inv = c.loop-next.invariant in
    let all : length c.args.graph.now ≤ c.loop-next.next = omega (arith, c.loop-next-test.false, c.count-count.ensures.count) in
    inv.emitted ∙ ap (λ (es : List Event). drop c.args.emit_from (operations es)) (take_all c.loop-next.next c.args.graph.now all)

pub returns-clause-walked : goal.returns-clause-walked
returns-clause-walked g c = λ none.
    let inv = c.loop-next.invariant in
    let all : c.loop-next.next ≡ length c.args.graph.now = omega (arith, c.loop-next-test.false, c.count-count.ensures.count, inv.high) in
    subst (λ n. GoesFrom c.args.graph.now c.args.cut n c.loop-next.state) all inv.walked

pub returns-clause-touches : goal.returns-clause-touches
returns-clause-touches g c = λ from counts.
    let inv = c.loop-next.invariant in
    let all : length c.args.graph.now ≤ c.loop-next.next = omega (arith, c.loop-next-test.false, c.count-count.ensures.count) in
    omega (arith, inv.steps from counts, ap (λ (es : List Event). touches es from) (take_all c.loop-next.next c.args.graph.now all))

pub returns-clause-most : goal.returns-clause-most
returns-clause-most g c = λ from counts.
    let inv = c.loop-next.invariant in
    omega (arith, inv.steps from counts, touched c.args.graph.now c.loop-next.next from)
