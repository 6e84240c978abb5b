use Rattle.std.proofs.Common.{◌≡◌, take}
use Rattle.event_graph.specs.Finding.{found_in}
use Rattle.event_graph.proofs.graph.Graph.find_all.Given as goal

abbrev pub invariant-loop-id : goal.invariant-loop-id
invariant-loop-id l = l.positions.items ≡ found_in l.self (take l.id-index l.ids)
