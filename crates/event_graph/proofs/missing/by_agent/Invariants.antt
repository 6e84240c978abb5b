use Rattle.std.proofs.Common.{◌≡◌, take}
use Rattle.event_graph.proofs.missing.by_agent.Given as goal

abbrev pub invariant-loop-own : goal.invariant-loop-own
invariant-loop-own l = l.counted.entries ≡ take l.own-index l.counts
