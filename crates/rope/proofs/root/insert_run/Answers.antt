use Rattle.std.proofs.Common.{◌+◌, List, drop, sym, ap, ◌∙◌, arith}
use Rattle.ew_model.specs.declared.text_op.TextOp.{TextOp}
use Rattle.ew_model.specs.Operations.{changed_by_all}
use Rattle.operation_runs.specs.Runs.{run_ops}
use Rattle.rope.specs.Typed.{typed, with_more}
use Rattle.rope.specs.Whole.{chars_of_root}
use Rattle.rope.proofs.RunChanges.{piece_line, piece_done}
use Rattle.rope.proofs.ShortTexts.{short_first}
use Rattle.rope.proofs.TypedRuns.{IsLine}
use Rattle.rope.proofs.root.insert_run.Goals as goal
use Rattle.rope.proofs.root.insert_run.Goals.{In_ok-set_to}

-- the insertions that are done at once
line : (c : In_ok-set_to) → IsLine c.set_to.new.ops.items (c.args.at + c.loop-from.from) (chars_of_root c.loop-from.root)
line c =
    let inv = c.loop-from.invariant in
    let many = c.min-many.result in
    piece_line (run_ops c.args.run) c.loop-from.from many c.set_to.new.ops.items (chars_of_root c.loop-from.root) (c.in_ok-set_to.ensures ∙ c.part.ensures.ops) inv.1 inv.2 c.args.at (omega (arith, c.min-many.ensures, c.loop-from-test.true)) (omega (arith, c.min-many.ensures, c.loop-from-test.true, c.count-count.ensures)) c.requires.typed

pub overflow_add-at : goal.overflow_add-at
overflow_add-at c =
    let within = (line ((goal.at.overflow_add-at c).In_ok-set_to)).within in
    let short = short_first (chars_of_root c.loop-from.root) (drop c.loop-from.from (run_ops c.args.run)) c.loop-from.invariant.2 in
    omega (arith, within, short)

pub insert_typed-requires-clause-within : goal.insert_typed-requires-clause-within
insert_typed-requires-clause-within c = (line ((goal.at.insert_typed-requires-clause-within c).In_ok-set_to)).within

pub insert_typed-requires-clause-short : goal.insert_typed-requires-clause-short
insert_typed-requires-clause-short c = rw c.deref.ensures.value (line ((goal.at.insert_typed-requires-clause-short c).In_ok-set_to)).short

pub insert_typed-requires-clause-some : goal.insert_typed-requires-clause-some
insert_typed-requires-clause-some c = rw c.deref.ensures.value (line ((goal.at.insert_typed-requires-clause-some c).In_ok-set_to)).some

pub loop-from-preserved : goal.loop-from-preserved
loop-from-preserved c =
    let inv = c.loop-from.invariant in
    let ops = run_ops c.args.run in
    let text = chars_of_root c.loop-from.root in
    let many = c.min-many.result in
    let at_once = line ((goal.at.loop-from-preserved c).In_ok-set_to) in
    let done = c.in_ok-insert_typed.ensures.ok ∙ ap (λ (os : List TextOp). with_more text (c.args.at + c.loop-from.from) (typed os)) c.deref.ensures.value ∙ sym at_once.change in
    let rest = piece_done ops c.loop-from.from many c.set_to.new.ops.items text (c.in_ok-set_to.ensures ∙ c.part.ensures.ops) inv.1 inv.2 (chars_of_root c.insert_typed.new.root) (changed_by_all ops (chars_of_root c.args.root.now)) done inv.4 in
    (omega (arith, c.min-many.ensures, c.loop-from-test.true), rest.0, rest.1, c.insert_typed.ensures.root, rest.2)
