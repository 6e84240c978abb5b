use Rattle.std.proofs.Common.{◌≡◌, take}
use Rattle.event_graph.specs.Subgraphs.{events_at}
use Rattle.event_graph.proofs.graph.Graph.events_at.Given as goal

abbrev pub invariant-loop-position : goal.invariant-loop-position
invariant-loop-position l = l.events.items ≡ events_at l.self (take l.position-index l.positions)
