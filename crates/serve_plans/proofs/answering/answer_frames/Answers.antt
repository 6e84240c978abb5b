use Rattle.std.proofs.Common.{◌+◌, ◌∙◌, refl, arith}
use Rattle.serve_plans.proofs.Cutting.{begins_short}
use Rattle.peer_frames.proofs.Answering.{found_next}
use Rattle.serve_plans.proofs.Answers.{next_shorter, spoken_next, closed_next, broken_next}
use Rattle.serve_plans.proofs.Speaking.{spoken_none}
use Rattle.serve_plans.proofs.Takes.{leaves_none, leaves_next, leaves_within, within_next, within_takes}
use Rattle.serve_plans.proofs.answering.answer_frames.Goals as goal

pub frames-init : goal.frames-init
frames-init g c = record {
  spoken = spoken_none c.args.reader.now.limits c.args.replica.now c.args.reader.now.bytes (g.K.Sink.seen c.args.out.now).taken (g.K.Sink.seen c.args.out.now).flushed
      c.args.number.now;
  limits = refl;
  touches = leaves_none c.args.reader.now.limits c.args.replica.now c.args.reader.now.bytes c.args.steps.now;
  count = refl;
}

pub overflow_add-number : goal.overflow_add-number
overflow_add-number g c = omega (arith, c.requires, c.frames.invariant.spoken.number, begins_short _ _ _ _ c.frames.invariant.spoken.begins)

pub overflow_add-result : goal.overflow_add-result
overflow_add-result g c = omega (arith, c.requires, c.frames.invariant.spoken.number, begins_short _ _ _ _ c.frames.invariant.spoken.begins)

pub returns-in_err-closing-in-Ok-Some-clause-told : goal.returns-in_err-closing-in-Ok-Some-clause-told
returns-in_err-closing-in-Ok-Some-clause-told g c =
    broken_next _ c.frames.reader.limits _ c.frames.replica c.answer_frame.new.replica _ c.frames.reader.bytes c.next.new.self.bytes c.in-Ok-Some.frame _
    (g.K.Sink.seen c.frames.out).taken (g.K.Sink.seen c.answer_frame.new.out).taken _ (g.K.Sink.seen c.frames.out).flushed (g.K.Sink.seen c.answer_frame.new.out).flushed _
    c.frames.number c.frames.invariant.spoken c.frames.invariant.limits
    (found_next c.frames.reader.limits c.frames.reader.bytes c.next.new.self.bytes c.in-Ok-Some.frame c.next.result c.in-Ok-Some.field-0 c.in-Ok-Some.is
    c.in-Ok-Some.field-0-is c.next.ensures.found)
    (c.frames.number + 1) c.from_residual.result c.from_residual.ensures.0 c.in_err-closing-in-Ok-Some.ensures.told

pub returns-in_err-closing-in-Ok-Some-clause-most : goal.returns-in_err-closing-in-Ok-Some-clause-most
returns-in_err-closing-in-Ok-Some-clause-most g c =
    within_takes c.args.reader.now.limits c.args.replica.now c.answer_frame.new.replica c.args.reader.now.bytes c.next.new.self.bytes c.args.steps.now
    c.answer_frame.new.steps c.from_residual.result c.from_residual.ensures.0
    (within_next c.args.reader.now.limits c.frames.reader.limits c.args.replica.now c.frames.replica c.answer_frame.new.replica c.args.reader.now.bytes
    c.frames.reader.bytes c.next.new.self.bytes c.in-Ok-Some.frame c.args.steps.now c.frames.steps c.answer_frame.new.steps c.frames.invariant.limits
    (found_next c.frames.reader.limits c.frames.reader.bytes c.next.new.self.bytes c.in-Ok-Some.frame c.next.result c.in-Ok-Some.field-0 c.in-Ok-Some.is
    c.in-Ok-Some.field-0-is c.next.ensures.found) c.frames.invariant.touches c.answer_frame.ensures.most)

pub returns-in-Some-clause-most : goal.returns-in-Some-clause-most
returns-in-Some-clause-most g c =
    within_next c.args.reader.now.limits c.frames.reader.limits c.args.replica.now c.frames.replica c.answer_frame.new.replica c.args.reader.now.bytes
    c.frames.reader.bytes c.next.new.self.bytes c.in-Ok-Some.frame c.args.steps.now c.frames.steps c.answer_frame.new.steps c.frames.invariant.limits
    (found_next c.frames.reader.limits c.frames.reader.bytes c.next.new.self.bytes c.in-Ok-Some.frame c.next.result c.in-Ok-Some.field-0 c.in-Ok-Some.is
    c.in-Ok-Some.field-0-is c.next.ensures.found) c.frames.invariant.touches c.answer_frame.ensures.most

pub returns-in-Err-clause-most : goal.returns-in-Err-clause-most
returns-in-Err-clause-most g c =
    leaves_within c.args.reader.now.limits c.args.replica.now c.frames.replica c.args.reader.now.bytes c.frames.reader.bytes c.args.steps.now c.frames.steps
    c.frames.invariant.touches

pub returns-in-Some-clause-told : goal.returns-in-Some-clause-told
returns-in-Some-clause-told g c =
    closed_next _ c.frames.reader.limits _ c.frames.replica c.answer_frame.new.replica _ c.frames.reader.bytes c.next.new.self.bytes c.in-Ok-Some.frame _
    (g.K.Sink.seen c.frames.out).taken (g.K.Sink.seen c.answer_frame.new.out).taken _ (g.K.Sink.seen c.frames.out).flushed (g.K.Sink.seen c.answer_frame.new.out).flushed _
    c.frames.number c.frames.invariant.spoken c.frames.invariant.limits
    (found_next c.frames.reader.limits c.frames.reader.bytes c.next.new.self.bytes c.in-Ok-Some.frame c.next.result c.in-Ok-Some.field-0 c.in-Ok-Some.is
    c.in-Ok-Some.field-0-is c.next.ensures.found)
    c.in-Some.closing c.in_ok-closing-in-Ok-Some.field-0 c.in-Some.is c.in_ok-closing-in-Ok-Some.ensures.told

pub frames-smaller : goal.frames-smaller
frames-smaller g c =
    next_shorter _ c.frames.reader.limits _ c.frames.replica c.answer_frame.new.replica _ c.frames.reader.bytes c.next.new.self.bytes c.in-Ok-Some.frame _
    (g.K.Sink.seen c.frames.out).taken (g.K.Sink.seen c.answer_frame.new.out).taken _ (g.K.Sink.seen c.frames.out).flushed (g.K.Sink.seen c.answer_frame.new.out).flushed _
    c.frames.number c.frames.invariant.spoken c.frames.invariant.limits
    (found_next c.frames.reader.limits c.frames.reader.bytes c.next.new.self.bytes c.in-Ok-Some.frame c.next.result c.in-Ok-Some.field-0 c.in-Ok-Some.is
    c.in-Ok-Some.field-0-is c.next.ensures.found)

pub frames-preserved : goal.frames-preserved
frames-preserved g c = record {
  spoken = spoken_next _ c.frames.reader.limits _ c.frames.replica c.answer_frame.new.replica _ c.frames.reader.bytes c.next.new.self.bytes c.in-Ok-Some.frame
      _ (g.K.Sink.seen c.frames.out).taken (g.K.Sink.seen c.answer_frame.new.out).taken _ (g.K.Sink.seen c.frames.out).flushed (g.K.Sink.seen c.answer_frame.new.out).flushed _
      c.frames.number c.frames.invariant.spoken c.frames.invariant.limits
      (found_next c.frames.reader.limits c.frames.reader.bytes c.next.new.self.bytes c.in-Ok-Some.frame c.next.result c.in-Ok-Some.field-0 c.in-Ok-Some.is
      c.in-Ok-Some.field-0-is c.next.ensures.found) c.in_ok-closing-in-Ok-Some.field-0 c.in_default.is c.in_ok-closing-in-Ok-Some.ensures.told;
  limits = c.next.ensures.limits ∙ c.frames.invariant.limits;
  touches = leaves_next c.args.reader.now.limits c.frames.reader.limits c.args.replica.now c.frames.replica c.answer_frame.new.replica c.args.reader.now.bytes
      c.frames.reader.bytes c.next.new.self.bytes c.in-Ok-Some.frame c.args.steps.now c.frames.steps c.answer_frame.new.steps c.frames.invariant.limits
      (found_next c.frames.reader.limits c.frames.reader.bytes c.next.new.self.bytes c.in-Ok-Some.frame c.next.result c.in-Ok-Some.field-0 c.in-Ok-Some.is
      c.in-Ok-Some.field-0-is c.next.ensures.found) c.frames.invariant.touches c.answer_frame.ensures.most
      (g.K.Sink.seen c.frames.out).taken (g.K.Sink.seen c.answer_frame.new.out).taken (g.K.Sink.seen c.frames.out).flushed (g.K.Sink.seen c.answer_frame.new.out).flushed
      c.in_ok-closing-in-Ok-Some.field-0 c.in_default.is c.in_ok-closing-in-Ok-Some.ensures.told;
  count = c.in_ok-closing-in-Ok-Some.ensures.cause ∙ c.frames.invariant.count;
}
