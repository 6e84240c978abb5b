use Rattle.std.proofs.Common.{◌≡◌}
use Rattle.serve_plans.specs.Serving.{Reads}
use Rattle.serve_plans.specs.SessionTouches.{TouchesAhead}
use Rattle.serve_plans.proofs.talk.talk.Given as goal

abbrev pub invariant-pieces : goal.invariant-pieces
invariant-pieces g l = record {
  reads : Reads l.limits l.fn.replica l.replica (g.S.Source.seen l.fn.input).left (g.S.Source.seen l.input).left (g.K.Sink.seen l.fn.out).taken (g.K.Sink.seen l.out).taken
      (g.K.Sink.seen l.fn.out).flushed (g.K.Sink.seen l.out).flushed l.reader.bytes l.number l.room;
  touches : TouchesAhead l.limits l.fn.replica l.replica (g.S.Source.seen l.fn.input).left (g.S.Source.seen l.input).left l.reader.bytes l.room l.fn.steps l.steps;
  limits : l.reader.limits ≡ l.limits;
  source : (g.S.Source.seen l.input).faults ≡ (g.S.Source.seen l.fn.input).faults;
  ends : (g.S.Source.seen l.input).ends ≡ (g.S.Source.seen l.fn.input).ends;
  sink : (g.K.Sink.seen l.out).faults ≡ (g.K.Sink.seen l.fn.out).faults;
}

abbrev pub decreases-pieces : goal.decreases-pieces
decreases-pieces g l = l.room
