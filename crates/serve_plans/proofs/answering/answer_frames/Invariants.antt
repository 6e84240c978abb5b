use Rattle.std.proofs.Common.{◌≡◌, length}
use Rattle.serve_plans.specs.Serving.{Spoken}
use Rattle.serve_plans.specs.SessionTouches.{LeavesTouches}
use Rattle.serve_plans.proofs.answering.answer_frames.Given as goal

abbrev pub invariant-frames : goal.invariant-frames
invariant-frames g l = record {
  spoken : Spoken l.fn.reader.limits l.fn.replica l.replica l.fn.reader.bytes l.reader.bytes (g.K.Sink.seen l.fn.out).taken (g.K.Sink.seen l.out).taken
      (g.K.Sink.seen l.fn.out).flushed (g.K.Sink.seen l.out).flushed l.fn.number l.number;
  limits : l.reader.limits ≡ l.fn.reader.limits;
  touches : LeavesTouches l.fn.reader.limits l.fn.replica l.replica l.fn.reader.bytes l.reader.bytes l.fn.steps l.steps;
  count : (g.K.Sink.seen l.out).faults ≡ (g.K.Sink.seen l.fn.out).faults;
}

abbrev pub decreases-frames : goal.decreases-frames
decreases-frames g l = length l.reader.bytes
