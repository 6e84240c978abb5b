use Rattle.std.proofs.Common.{◌≡◌, map, take}
use Rattle.ew_model.specs.Ancestors.{ids_of}
use Rattle.event_graph.specs.Keeping.{id_of}
use Rattle.replica.proofs.heads.ids_at.Given as goal

abbrev pub invariant-loop-position : goal.invariant-loop-position
invariant-loop-position l = l.ids.items ≡ map (id_of (ids_of l.graph)) (take l.position-index l.positions)
