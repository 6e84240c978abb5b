use Rattle.std.proofs.Common.{arith}
use Rattle.agent_ids.proofs.OwnPositions.{kept_few}
use Rattle.agent_ids.proofs.table.AgentTable.agent_count.Goals as goal

pub overflow_cast-result : goal.overflow_cast-result
overflow_cast-result c = omega (arith, kept_few _ _ _ c.self.invariant.agents)
