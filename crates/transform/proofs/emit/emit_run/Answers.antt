use Rattle.std.proofs.Common.{◌≡◌, ◌-◌, ◌++◌, List, length, take, drop, sym, ap, ◌∙◌, subst, OnOk, arith, append-nil, length-drop}
use Rattle.std.proofs.lemmas.List.{drop_all, length-take-le}
use Rattle.ew_model.specs.declared.text_op.TextOp.{TextOp}
use Rattle.operation_runs.specs.Runs.{run_ops}
use Rattle.transform.proofs.emit.emit_run.Goals as goal

pub push_run-requires-clause-some : goal.push_run-requires-clause-some
push_run-requires-clause-some c =
    let from = c.saturating_sub-from.result in
    let ops = run_ops c.args.run in
    let long = length-take-le c.args.count ops c.requires.within in
    let left = length-drop from (take c.args.count ops) in
    omega (arith, long, left, c.if-from-count.false, ap (length {A = TextOp}) c.part.ensures.ops)

pub returns-then-from-count : goal.returns-then-from-count
returns-then-from-count c =
    let ops = run_ops c.args.run in
    let long = length-take-le c.args.count ops c.requires.within in
    let none = drop_all (c.args.emit_from - c.args.position) (take c.args.count ops) (omega (arith, long, c.if-from-count.true, c.saturating_sub-from.ensures)) in
    sym (append-nil c.args.ops.now) ∙ ap (λ (os : List TextOp). c.args.ops.now ++ os) (sym none)

pub returns : goal.returns
returns c =
    let ops = run_ops c.args.run in
    let from : c.saturating_sub-from.result ≡ c.args.emit_from - c.args.position = omega (arith, c.saturating_sub-from.ensures) in
    subst (λ (os : List TextOp). OnOk c.push_run.result (c.push_run.new.self ≡ c.args.ops.now ++ os)) (c.part.ensures.ops ∙ ap (λ n. drop n (take c.args.count ops)) from) c.push_run.ensures.ok
