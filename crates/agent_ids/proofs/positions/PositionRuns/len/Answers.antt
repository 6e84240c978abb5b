use Rattle.std.proofs.Common.{ℕ, length, ap, arith}
use Rattle.agent_ids.proofs.PositionLists.{positions_long}
use Rattle.agent_ids.proofs.positions.PositionRuns.len.Goals as goal

pub returns : goal.returns
returns c = let all = positions_long c.self.inside.runs.items 0 c.self.inside.count c.self.invariant in let long = ap (length {A = ℕ}) c.self.view_is in omega (arith, all, long)
