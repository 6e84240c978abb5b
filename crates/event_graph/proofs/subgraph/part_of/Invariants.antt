use Rattle.std.proofs.Common.{◌≡◌, ◌≤◌, ◌++◌, length, take}
use Rattle.ancestors.specs.Spans.{positions_of}
use Rattle.event_graph.specs.Subgraphs.{events_at}
use Rattle.event_graph.proofs.SpanEvents.{AreNext}
use Rattle.event_graph.proofs.subgraph.part_of.Given as goal

-- the spans that are left are next, and complete the part
abbrev pub invariant-loop-left : goal.invariant-loop-left
invariant-loop-left l = record {
  within : l.left ≤ length l.fn.spans;
  next : AreNext l.fn.graph l.part (positions_of (take l.left l.fn.spans));
  same : l.part ++ events_at l.fn.graph (positions_of (take l.left l.fn.spans)) ≡ events_at l.fn.graph (positions_of l.fn.spans);
}

abbrev pub decreases-loop-left : goal.decreases-loop-left
decreases-loop-left l = l.left
