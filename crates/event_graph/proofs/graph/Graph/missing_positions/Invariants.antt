use Rattle.std.proofs.Common.{◌≡◌}
use Rattle.event_graph.proofs.MissingPlaces.{AreMissing}
use Rattle.event_graph.proofs.graph.Graph.missing_positions.Given as goal

abbrev pub invariant-loop-position : goal.invariant-loop-position
invariant-loop-position l = record {
  missing : AreMissing l.self l.counts l.position l.missing.items;
  counted : l.counted ≡ l.counts;
}
