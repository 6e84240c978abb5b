use Rattle.std.proofs.Common.{◌≡◌, map, take}
use Rattle.event_graph.specs.Keeping.{id_of}
use Rattle.event_graph.proofs.ids.ids_at.Given as goal

abbrev pub invariant-loop-position : goal.invariant-loop-position
invariant-loop-position l = l.ids.items ≡ map (id_of l.table) (take l.position-index l.positions)
