use Rattle.std.proofs.Common.{◌≡◌, ◌+◌, ◌-◌, ◌≤◌, List, ◌++◌, take, drop, sym, ap, ◌∙◌, subst, arith}
use Rattle.ew_model.specs.Operations.{operations}
use Rattle.ew_model.specs.declared.text_op.TextOp.{TextOp}
use Rattle.operation_runs.specs.declared.run.OperationRun.{OperationRun}
use Rattle.operation_runs.specs.Runs.{insertions, run_ops, RunFits}
use Rattle.operation_runs.proofs.RunLaws.{length-insertions}
use Rattle.advance_retreat.specs.Kept.{Kept}
use Rattle.transform.specs.Reaching.{Reached}
use Rattle.transform.specs.Running.{IsRunAt}
use Rattle.transform.proofs.Passing.{emitted_by_run}
use Rattle.transform.proofs.TypedEvents.{run_may_type, run_ops_typed, run_walked, slice_long, slice_ops}
use Rattle.transform.proofs.run.type_on.Goals as goal

pub overflow_add-at : goal.overflow_add-at
overflow_add-at g c =
    let a = c.in-Insertions in
    let told = (subst (λ (r : OperationRun). IsRunAt c.args.graph.now c.args.run.position c.args.run.count (run_ops r)) a.is c.requires.run.events).told in
    let fit = (subst RunFits a.is c.requires.run.fits).1 in
    omega (arith, told, fit, length-insertions a.at a.chars.now, c.min-more.ensures, c.if-more-eq0.false)

pub type_on-requires-clause-may : goal.type_on-requires-clause-may
type_on-requires-clause-may g c =
    let a = c.in-Insertions in
    let run = subst (λ (r : OperationRun). IsRunAt c.args.graph.now c.args.run.position c.args.run.count (run_ops r)) a.is c.requires.run.events in
    let high = c.requires.behind in
    run_may_type c.args.graph.now c.count-count.ensures.admitted c.count-count.ensures.sound c.requires.walked.0 c.args.run.position c.args.run.count c.args.place (c.args.run.position + c.args.place - 1) c.min-more.result c.next_ids_near.result a.at a.chars.now c.args.state.now run c.requires.behind
    (omega (arith, high)) c.requires.walked.1 (omega (arith, c.min-more.ensures, c.requires.within)) (omega (arith, c.min-more.ensures)) c.next_ids_near.ensures

pub slice_bounds-typed-end : goal.slice_bounds-typed-end
slice_bounds-typed-end g c =
    let a = c.in-Insertions in
    let told = (subst (λ (r : OperationRun). IsRunAt c.args.graph.now c.args.run.position c.args.run.count (run_ops r)) a.is c.requires.run.events).told in
    omega (arith, told, length-insertions a.at a.chars.now, c.min-more.ensures, c.requires.within)

pub emit_run-requires-clause-fits : goal.emit_run-requires-clause-fits
emit_run-requires-clause-fits g c =
    let a = c.in-Insertions in
    let run = subst (λ (r : OperationRun). IsRunAt c.args.graph.now c.args.run.position c.args.run.count (run_ops r)) a.is c.requires.run.events in
    let told = run.told in
    let all = run.within in
    let high = c.requires.behind in
    let n = c.min-more.result in
    let few : c.args.place + n ≤ c.args.run.count = omega (arith, c.min-more.ensures, c.requires.within) in
    let long = slice_long c.args.place n a.chars.now (omega (arith, few, told, length-insertions a.at a.chars.now)) in
    (omega (arith, long, few, all, c.count-count.ensures.count), omega (arith, long, c.in-Some.ensures.few))

pub emit_run-requires-clause-within : goal.emit_run-requires-clause-within
emit_run-requires-clause-within g c =
    let a = c.in-Insertions in
    let told = (subst (λ (r : OperationRun). IsRunAt c.args.graph.now c.args.run.position c.args.run.count (run_ops r)) a.is c.requires.run.events).told in
    let n = c.min-more.result in
    let long = slice_long c.args.place n a.chars.now (omega (arith, c.min-more.ensures, c.requires.within, told, length-insertions a.at a.chars.now)) in
    omega (arith, long, length-insertions c.in-Some.first (take (c.args.place + n - c.args.place) (drop c.args.place a.chars.now)))

-- where no more was applied, the walk stands as before
pub returns-in_default-clause-walked : goal.returns-in_default-clause-walked
returns-in_default-clause-walked g c = λ cut walked.
    let here : c.args.run.position + c.args.place ≡ c.args.run.position + c.args.place + 0 = omega arith in
    subst (λ m. Reached c.args.graph.now cut m c.args.state.now) here walked

pub returns-then-more-eq0-clause-walked : goal.returns-then-more-eq0-clause-walked
returns-then-more-eq0-clause-walked g c = λ cut walked.
    let here : c.args.run.position + c.args.place ≡ c.args.run.position + c.args.place + 0 = omega arith in
    subst (λ m. Reached c.args.graph.now cut m c.args.state.now) here walked

pub returns-in_default-type_on-clause-walked : goal.returns-in_default-type_on-clause-walked
returns-in_default-type_on-clause-walked g c = λ cut walked.
    let here : c.args.run.position + c.args.place ≡ c.args.run.position + c.args.place + 0 = omega arith in
    subst (λ (s : Kept). Reached c.args.graph.now cut (c.args.run.position + c.args.place + 0) s) (sym c.in_default-type_on.ensures.none)
    (subst (λ m. Reached c.args.graph.now cut m c.args.state.now) here walked)

pub returns-clause-walked : goal.returns-clause-walked
returns-clause-walked g c = λ cut walked.
    let a = c.in-Insertions in
    let run = subst (λ (r : OperationRun). IsRunAt c.args.graph.now c.args.run.position c.args.run.count (run_ops r)) a.is c.requires.run.events in
    let high = c.requires.behind in
    run_walked c.args.graph.now c.count-count.ensures.admitted c.count-count.ensures.sound cut c.args.run.position c.args.run.count c.args.place (c.args.run.position + c.args.place - 1) c.min-more.result c.next_ids_near.result a.at a.chars.now c.args.state.now run c.requires.behind
    (omega (arith, high)) walked (omega (arith, c.min-more.ensures, c.requires.within)) (omega (arith, c.min-more.ensures)) c.next_ids_near.ensures c.in-Some.first c.type_on.new.self c.in-Some.ensures.typed

pub returns-clause-emitted : goal.returns-clause-emitted
returns-clause-emitted g c =
    let a = c.in-Insertions in
    let now = c.args.graph.now in
    let run = subst (λ (r : OperationRun). IsRunAt now c.args.run.position c.args.run.count (run_ops r)) a.is c.requires.run.events in
    let all = run.within in
    let high = c.requires.behind in
    let n = c.min-more.result in
    let first = c.in-Some.first in
    let whole = run_ops_typed now c.count-count.ensures.admitted c.count-count.ensures.sound c.requires.walked.0 c.args.run.position c.args.run.count c.args.place (c.args.run.position + c.args.place - 1) n c.next_ids_near.result a.at a.chars.now c.args.state.now run c.requires.behind
    (omega (arith, high)) c.requires.walked.1 (omega (arith, c.min-more.ensures, c.requires.within)) (omega (arith, c.min-more.ensures)) c.next_ids_near.ensures first c.type_on.new.self c.in-Some.ensures.typed in
    let told : List TextOp = take n (insertions first (take (c.args.place + n - c.args.place) (drop c.args.place a.chars.now))) in
    let place : c.args.run.position + c.args.place - 1 + 1 ≡ c.args.run.position + c.args.place = omega (arith, high) in
    emitted_by_run now (c.args.run.position + c.args.place) n c.args.emit_from c.args.ops.now c.emit_run.new.ops told (omega (arith, all, c.requires.within))
    (whole ∙ ap (λ (ops : List TextOp). operations (take (c.args.run.position + c.args.place) now) ++ ops) (sym (slice_ops first c.args.place n a.chars.now)))
    c.requires.emitted (c.in_ok-emit_run.ensures ∙ ap (λ m. c.args.ops.now ++ drop (c.args.emit_from - m) told) place)
