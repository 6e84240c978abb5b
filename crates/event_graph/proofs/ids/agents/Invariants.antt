use Rattle.std.proofs.Common.{◌≡◌, take}
use Rattle.history_definitions.specs.Agents.{agents_of}
use Rattle.event_graph.proofs.ids.agents.Given as goal

abbrev pub invariant-loop-n : goal.invariant-loop-n
invariant-loop-n l = l.names.items ≡ take l.n (agents_of l.table)
