use Rattle.std.proofs.Common.{◌≡◌, ◌-◌, ◌++◌}
use Rattle.std.specs.List.{range_with_len}
use Rattle.ancestors.specs.Spans.{positions_in}
use Rattle.event_graph.specs.Subgraphs.{events_at}
use Rattle.event_graph.proofs.SpanEvents.{AreNext}
use Rattle.event_graph.proofs.subgraph.admit_span.Given as goal

-- the positions from here on are next, and complete the part
abbrev pub invariant-loop-position : goal.invariant-loop-position
invariant-loop-position l = record {
  next : AreNext l.fn.graph l.part (range_with_len l.position (l.fn.span.to - l.position));
  same : l.part ++ events_at l.fn.graph (range_with_len l.position (l.fn.span.to - l.position)) ≡ l.fn.part ++ events_at l.fn.graph (positions_in l.fn.span);
}
