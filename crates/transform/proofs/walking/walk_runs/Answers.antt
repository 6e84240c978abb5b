use Rattle.std.proofs.Common.{◌≡◌, ◌+◌, ◌∙◌, suc, length, take, ap, subst, arith}
use Rattle.ew_model.specs.Touches.{touches}
use Rattle.transform.specs.Running.{TurnsTo, emitted_to, judged_to, walked_to}
use Rattle.transform.proofs.CutFronts.{critical_within}
use Rattle.transform.proofs.Loops.{starts, starts_empty, starts_untouched, stops, ends, base_length}
use Rattle.transform.proofs.walking.walk_runs.Goals as goal

pub loop-next-init : goal.loop-next-init
loop-next-init g c =
    let now = c.args.graph.now in
    let cut = c.args.from_cut in
    let within = critical_within now cut c.requires.cut in
    record {
      low = omega arith;
      high = within;
      walked = starts now cut c.effect_len.result c.args.state.now within c.requires.cut c.requires.good c.requires.base (base_length now cut c.args.state.now c.effect_len.result c.requires.base c.effect_len.ensures);
      emitted = starts_empty now cut c.args.emit_from c.new-ops.result within c.requires.emit c.new-ops.ensures;
      steps = starts_untouched now cut c.args.steps.now within;
    }

pub take_turns-requires-clause-walked : goal.take_turns-requires-clause-walked
take_turns-requires-clause-walked g c = (c.args.from_cut, c.loop-next.invariant.low, c.loop-next.invariant.walked)

pub loop-next-preserved : goal.loop-next-preserved
loop-next-preserved g c =
    let now = c.args.graph.now in
    let cut = c.args.from_cut in
    let inv = c.loop-next.invariant in
    let turned = subst (TurnsTo now cut c.loop-next.next (length now) c.take_turns.new.line c.take_turns.new.state) c.in-To.is (c.in_ok-turns.ensures.turned cut inv.low inv.walked) in
    record {
      low = omega (arith, inv.low, turned.0);
      high = turned.1;
      walked = turned.2;
      emitted = c.in_ok-turns.ensures.emitted ∙ ap (λ t. emitted_to now c.args.emit_from (walked_to t)) c.in-To.is;
      steps = omega (arith, c.in_ok-turns.ensures.steps cut inv.low inv.walked, inv.steps, ap (λ t. touches (take (judged_to t) now) cut) c.in-To.is);
    }

pub loop-next-smaller : goal.loop-next-smaller
loop-next-smaller g c =
    let now = c.args.graph.now in
    let cut = c.args.from_cut in
    let inv = c.loop-next.invariant in
    let turned = subst (TurnsTo now cut c.loop-next.next (length now) c.take_turns.new.line c.take_turns.new.state) c.in-To.is (c.in_ok-turns.ensures.turned cut inv.low inv.walked) in
    omega (arith, turned.0, turned.1)

pub returns-in_err-turns-clause-most : goal.returns-in_err-turns-clause-most
returns-in_err-turns-clause-most g c =
    let inv = c.loop-next.invariant in
    omega (arith, c.take_turns.ensures.most c.args.from_cut inv.low inv.walked, inv.steps)

pub returns-in-OutOfRange-clause-most : goal.returns-in-OutOfRange-clause-most
returns-in-OutOfRange-clause-most g c =
    let inv = c.loop-next.invariant in
    omega (arith, c.take_turns.ensures.most c.args.from_cut inv.low inv.walked, inv.steps)

pub returns-in-OutOfRange-clause-stopped : goal.returns-in-OutOfRange-clause-stopped
returns-in-OutOfRange-clause-stopped g c =
    let now = c.args.graph.now in
    let cut = c.args.from_cut in
    let inv = c.loop-next.invariant in
    let turned = subst (TurnsTo now cut c.loop-next.next (length now) c.take_turns.new.line c.take_turns.new.state) c.in-OutOfRange.is (c.in_ok-turns.ensures.turned cut inv.low inv.walked) in
    (stops now cut c.in-OutOfRange.position c.in-OutOfRange.len c.take_turns.new.state turned.1 turned.2 turned.3).0

pub returns-in-OutOfRange-clause-state : goal.returns-in-OutOfRange-clause-state
returns-in-OutOfRange-clause-state g c =
    let now = c.args.graph.now in
    let cut = c.args.from_cut in
    let inv = c.loop-next.invariant in
    let turned = subst (TurnsTo now cut c.loop-next.next (length now) c.take_turns.new.line c.take_turns.new.state) c.in-OutOfRange.is (c.in_ok-turns.ensures.turned cut inv.low inv.walked) in
    (stops now cut c.in-OutOfRange.position c.in-OutOfRange.len c.take_turns.new.state turned.1 turned.2 turned.3).1

pub returns-in-OutOfRange-clause-ops : goal.returns-in-OutOfRange-clause-ops
returns-in-OutOfRange-clause-ops g c = c.in_ok-turns.ensures.emitted ∙ ap (λ t. emitted_to c.args.graph.now c.args.emit_from (walked_to t)) c.in-OutOfRange.is

pub returns-in-OutOfRange-clause-touches : goal.returns-in-OutOfRange-clause-touches
returns-in-OutOfRange-clause-touches g c =
    let now = c.args.graph.now in
    let inv = c.loop-next.invariant in
    let next : c.in-OutOfRange.position + 1 ≡ suc c.in-OutOfRange.position = omega arith in
    omega (arith, c.in_ok-turns.ensures.steps c.args.from_cut inv.low inv.walked, inv.steps, ap (λ t. touches (take (judged_to t) now) c.args.from_cut) c.in-OutOfRange.is, ap (λ k. touches (take k now) c.args.from_cut) next)

pub returns-clause-stopped : goal.returns-clause-stopped
returns-clause-stopped g c =
    let inv = c.loop-next.invariant in
    (ends c.args.graph.now c.args.from_cut c.loop-next.next c.loop-next.line c.loop-next.state inv.low (omega (arith, c.loop-next-test.false, c.count-count.ensures.count, inv.high)) inv.walked).0

pub returns-clause-state : goal.returns-clause-state
returns-clause-state g c =
    let inv = c.loop-next.invariant in
    (ends c.args.graph.now c.args.from_cut c.loop-next.next c.loop-next.line c.loop-next.state inv.low (omega (arith, c.loop-next-test.false, c.count-count.ensures.count, inv.high)) inv.walked).1
