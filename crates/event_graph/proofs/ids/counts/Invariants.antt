use Rattle.std.proofs.Common.{◌≡◌, map, take}
use Rattle.history_definitions.specs.Agents.{count_of}
use Rattle.event_graph.proofs.ids.counts.Given as goal

abbrev pub invariant-loop-name : goal.invariant-loop-name
invariant-loop-name l = l.counts.items ≡ map (λ name. (name, count_of l.table name)) (take l.name-index l.names)
