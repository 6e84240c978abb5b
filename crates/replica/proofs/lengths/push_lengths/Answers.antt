use Rattle.std.proofs.Common.{◌∙◌, ◌+◌, ◌∷◌, [], ◌++◌, List, ℕ, drop, get_or, append_assoc, append-nil, refl, sym, ap, subst}
use Rattle.std.proofs.lemmas.Result.{err_from_is_err_and}
use Rattle.ew_model.specs.declared.text_op.TextOp.TheVariants.{Ins}
use Rattle.ew_model.specs.Operations.{changed_by_all}
use Rattle.replica.specs.LengthRuns.{course_lengths}
use Rattle.replica.specs.Lengths.{lengths_through}
use Rattle.replica.proofs.LengthSteps.{IsOnTheWay, at_next, next_fits_course, course_further, at_end, same_front}
use Rattle.replica.proofs.lengths.push_lengths.Goals as goal
use Rattle.replica.proofs.lengths.push_lengths.Goals.{In-loop-op}

-- where the next operation comes
next : (c : In-loop-op) → IsOnTheWay c.loop-op.len c.loop-op.lengths (get_or c.args.ops.now c.loop-op.op-index (Ins 0 0) ∷ drop (c.loop-op.op-index + 1) c.args.ops.now) (c.args.lengths.now ++ lengths_through c.args.text.now.characters c.args.ops.now) (changed_by_all c.args.ops.now c.args.text.now.characters)
next c = at_next c.loop-op.len c.loop-op.lengths (c.args.lengths.now ++ lengths_through c.args.text.now.characters c.args.ops.now) (changed_by_all c.args.ops.now c.args.text.now.characters) c.args.ops.now c.loop-op.op-index (Ins 0 0) c.loop-op-test.true c.loop-op.invariant.left

pub push-requires : goal.push-requires
push-requires c =
    next_fits_course c.loop-op.len c.loop-op.lengths (c.args.lengths.now ++ lengths_through c.args.text.now.characters c.args.ops.now) (changed_by_all c.args.ops.now c.args.text.now.characters) (get_or c.args.ops.now c.loop-op.op-index (Ins 0 0)) (drop (c.loop-op.op-index + 1) c.args.ops.now) c.course_of-course.result
    (sym c.course_of-course.ensures) (next ((goal.at.push-requires c).In-loop-op))

pub loop-op-init : goal.loop-op-init
loop-op-init c = record {
  begun = ([], sym (append-nil c.args.lengths.now));
  left = record { now = c.args.text.now.characters; long = sym c.len-len.ensures; fit = c.requires.fit; short = c.requires.short; rest = refl; ends = refl };
}

pub loop-op-preserved : goal.loop-op-preserved
loop-op-preserved c =
    let all = c.args.lengths.now ++ lengths_through c.args.text.now.characters c.args.ops.now in
    let end = changed_by_all c.args.ops.now c.args.text.now.characters in
    let left = drop (c.loop-op.op-index + 1) c.args.ops.now in
    let course = c.course_of-course.result in
    let one = course_lengths course c.loop-op.len 1 in
    let begun = c.loop-op.invariant.begun in
    let more = c.in_ok-push.ensures.ok in
    record {
      begun = (begun.0 ++ one, more ∙ (ap (λ (ls : List ℕ). ls ++ one) begun.1 ∙ append_assoc c.args.lengths.now begun.0 one));
      left =
          subst (λ (ls : List ℕ). IsOnTheWay c.after-len.result ls left all end) (sym more)
          (subst (λ n. IsOnTheWay n (c.loop-op.lengths ++ one) left all end) (sym c.after-len.ensures)
          (course_further c.loop-op.len c.loop-op.lengths all end (get_or c.args.ops.now c.loop-op.op-index (Ins 0 0)) left course (sym c.course_of-course.ensures) (next ((goal.at.loop-op-preserved c).In-loop-op))));
    }

pub returns-clause-ok : goal.returns-clause-ok
returns-clause-ok c =
    (at_end c.loop-op.len c.loop-op.lengths (c.args.lengths.now ++ lengths_through c.args.text.now.characters c.args.ops.now) (changed_by_all c.args.ops.now c.args.text.now.characters) c.args.ops.now c.loop-op.op-index c.loop-op-test.false c.loop-op.invariant.left).0

pub returns-clause-long : goal.returns-clause-long
returns-clause-long c =
    (at_end c.loop-op.len c.loop-op.lengths (c.args.lengths.now ++ lengths_through c.args.text.now.characters c.args.ops.now) (changed_by_all c.args.ops.now c.args.text.now.characters) c.args.ops.now c.loop-op.op-index c.loop-op-test.false c.loop-op.invariant.left).1

pub returns-in_err-push-clause-front : goal.returns-in_err-push-clause-front
returns-in_err-push-clause-front c =
    let p = err_from_is_err_and c.from_residual.result c.from_residual.ensures.1 in
    let begun = c.loop-op.invariant.begun in
    rw p.1 (same_front c.args.lengths.now c.push.new.self begun.0 (c.in_err-push.ensures.err ∙ begun.1))
