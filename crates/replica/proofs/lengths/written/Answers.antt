use Rattle.std.proofs.Common.{[], ◌++◌, ℕ, List, refl, sym, subst}
use Rattle.ew_model.specs.declared.text_op.TextOp.{TextOp}
use Rattle.ew_model.specs.Operations.{changed_by_all}
use Rattle.operation_runs.specs.Runs.{run_ops}
use Rattle.rope.proofs.RunChanges.{fit_front, short_front}
use Rattle.replica.specs.Lengths.{lengths_through}
use Rattle.replica.proofs.LengthSteps.{IsOnTheWay, none_left, run_begins, run_further}
use Rattle.replica.proofs.lengths.written.Goals as goal
use Rattle.replica.proofs.lengths.written.Goals.{In-Some}

next : (c : In-Some) → IsOnTheWay c.loop-run.len c.loop-run.lengths (run_ops c.in-Some.run' ++ c.next_run.new.self) (lengths_through [] c.args.ops) (changed_by_all c.args.ops [])
next c = subst (λ (left : List TextOp). IsOnTheWay c.loop-run.len c.loop-run.lengths left (lengths_through [] c.args.ops) (changed_by_all c.args.ops [])) c.in-Some.ensures.ops c.loop-run.invariant

pub loop-run-init : goal.loop-run-init
loop-run-init c =
    let ops = c.args.ops in
    subst (λ (ls : List ℕ). IsOnTheWay 0 ls c.reader-reader.result (lengths_through [] ops) (changed_by_all ops [])) (sym c.new-lengths.ensures)
    (subst (λ (left : List TextOp). IsOnTheWay 0 [] left (lengths_through [] ops) (changed_by_all ops [])) (sym c.reader-reader.ensures) (run_begins 0 [] ops [] refl c.requires.fit c.requires.short))

pub push_lengths_of_run-requires-clause-text : goal.push_lengths_of_run-requires-clause-text
push_lengths_of_run-requires-clause-text c =
    let h = next ((goal.at.push_lengths_of_run-requires-clause-text c).In-Some) in
    let ops = run_ops c.in-Some.run' in
    (h.now, h.long, (fit_front ops c.next_run.new.self h.now h.fit).0, (short_front ops c.next_run.new.self h.now h.short).0)

pub loop-run-preserved : goal.loop-run-preserved
loop-run-preserved c =
    let h = next ((goal.at.loop-run-preserved c).In-Some) in
    let ops = run_ops c.in-Some.run' in
    let rest = c.next_run.new.self in
    let fit = (fit_front ops rest h.now h.fit).0 in
    let short = (short_front ops rest h.now h.short).0 in
    run_further c.loop-run.len c.in_ok-len.len c.loop-run.lengths c.push_lengths_of_run.new.lengths (lengths_through [] c.args.ops) (changed_by_all c.args.ops []) ops rest h (c.in_ok-len.ensures.long h.now h.long fit short) (c.in_ok-len.ensures.lengths h.now h.long fit short)

-- no operation is left
pub told-requires-clause-long : goal.told-requires-clause-long
told-requires-clause-long c =
    let ops = c.args.ops in
    (none_left c.loop-run.len c.loop-run.lengths (lengths_through [] ops) (changed_by_all ops []) c.loop-run.reader c.in_default.ensures.none.0 c.loop-run.invariant).1

pub returns-clause-lengths : goal.returns-clause-lengths
returns-clause-lengths c =
    let ops = c.args.ops in
    (none_left c.loop-run.len c.loop-run.lengths (lengths_through [] ops) (changed_by_all ops []) c.loop-run.reader c.in_default.ensures.none.0 c.loop-run.invariant).0
