use Rattle.std.proofs.Common.{ℕ, take}
use Rattle.ew_model.specs.Sets.{Among}
use Rattle.event_graph.proofs.graph.Graph.are_heads.Given as goal

abbrev pub invariant-loop-position : goal.invariant-loop-position
invariant-loop-position l = (p : ℕ) → Among p (take l.position-index l.positions) → Among p l.heads
