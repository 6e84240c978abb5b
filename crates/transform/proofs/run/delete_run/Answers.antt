use Rattle.std.proofs.Common.{◌≡◌, ◌+◌, List, ◌++◌, length, take, replicate, sym, ap, ◌∙◌, subst, arith}
use Rattle.std.proofs.lemmas.List.{length-replicate, take-replicate}
use Rattle.ew_model.specs.Operations.{operations}
use Rattle.ew_model.specs.declared.text_op.TextOp.{TextOp}
use Rattle.operation_runs.specs.declared.run.OperationRun.{OperationRun}
use Rattle.operation_runs.specs.Runs.{run_ops}
use Rattle.character_runs.specs.Deleting.{deletion_op}
use Rattle.transform.specs.Running.{IsRunAt}
use Rattle.transform.proofs.Passing.{emitted_by_run}
use Rattle.transform.proofs.DeletedEvents.{run_deleted, run_may_delete, run_ops_deleted}
use Rattle.transform.proofs.run.delete_run.Goals as goal

pub overflow_add-first : goal.overflow_add-first
overflow_add-first g c = let all = c.requires.run.events.within in omega (arith, all, c.requires.within, c.count-count.ensures.count)

pub delete_run-requires-clause-few : goal.delete_run-requires-clause-few
delete_run-requires-clause-few g c = let all = c.requires.run.events.within in omega (arith, all, c.requires.within, c.count-count.ensures.count)

pub delete_run-requires-clause-may : goal.delete_run-requires-clause-may
delete_run-requires-clause-may g c =
    let a = c.in-Deletions in
    let run = subst (λ (r : OperationRun). IsRunAt c.args.graph.now c.args.run.position c.args.run.count (run_ops r)) a.is c.requires.run.events in
    run_may_delete c.args.graph.now c.count-count.ensures.admitted c.count-count.ensures.sound c.requires.ready.0 c.args.run.position c.args.run.count c.args.place a.at a.count c.args.state.now run c.requires.within c.requires.ready.1

pub emit_run-requires-clause-within : goal.emit_run-requires-clause-within
emit_run-requires-clause-within g c =
    let ds = c.in-Some.deleted in
    let long = ap length c.operations_of.ensures.is ∙ length-replicate ds.count (deletion_op ds.index) in
    omega (arith, long)

pub returns-clause-walked : goal.returns-clause-walked
returns-clause-walked g c = λ cut ready some.
    let a = c.in-Deletions in
    let ds = c.in-Some.deleted in
    let run = subst (λ (r : OperationRun). IsRunAt c.args.graph.now c.args.run.position c.args.run.count (run_ops r)) a.is c.requires.run.events in
    let most = rw c.in-Some.is at c.in_ok-deleted.ensures.most in
    let each = rw c.in-Some.is at c.in_ok-deleted.ensures.deleted in
    run_deleted c.args.graph.now c.count-count.ensures.admitted c.count-count.ensures.sound cut c.args.run.position c.args.run.count c.args.place a.at a.count c.args.state.now run c.requires.within ready (deletion_op ds.index) ds.count (omega (arith, some))
    most c.delete_run.new.self each

pub returns-clause-emitted : goal.returns-clause-emitted
returns-clause-emitted g c =
    let a = c.in-Deletions in
    let ds = c.in-Some.deleted in
    let now = c.args.graph.now in
    let run = subst (λ (r : OperationRun). IsRunAt now c.args.run.position c.args.run.count (run_ops r)) a.is c.requires.run.events in
    let all = run.within in
    let many = rw c.in-Some.is at c.in_ok-deleted.ensures.some in
    let most = rw c.in-Some.is at c.in_ok-deleted.ensures.most in
    let each = rw c.in-Some.is at c.in_ok-deleted.ensures.deleted in
    let whole = run_ops_deleted now c.count-count.ensures.admitted c.count-count.ensures.sound c.requires.ready.0 c.args.run.position c.args.run.count c.args.place a.at a.count c.args.state.now run c.requires.within c.requires.ready.1 (deletion_op ds.index) ds.count (omega (arith, many))
    most c.delete_run.new.self each in
    let told : List TextOp = take ds.count (run_ops c.operations_of.result) in
    let same : told ≡ replicate ds.count (deletion_op ds.index) = ap (take ds.count) c.operations_of.ensures.is ∙ take-replicate ds.count ds.count (deletion_op ds.index) (omega arith) in
    emitted_by_run now (c.args.run.position + c.args.place) ds.count c.args.emit_from c.args.ops.now c.emit_run.new.ops told (omega (arith, all, c.requires.within, most))
    (whole ∙ ap (λ (ops : List TextOp). operations (take (c.args.run.position + c.args.place) now) ++ ops) (sym same))
    c.requires.emitted c.in_ok-emit_run.ensures
