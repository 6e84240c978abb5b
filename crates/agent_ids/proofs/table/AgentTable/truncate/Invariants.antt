use Rattle.std.proofs.Common.{◌≡◌, length, take}
use Rattle.agent_ids.proofs.table.AgentTable.truncate.Given as goal

abbrev pub invariant-loop-self : goal.invariant-loop-self
invariant-loop-self l = take l.n l.self ≡ take l.n l.initial.self

abbrev pub decreases-loop-self : goal.decreases-loop-self
decreases-loop-self l = length l.self
