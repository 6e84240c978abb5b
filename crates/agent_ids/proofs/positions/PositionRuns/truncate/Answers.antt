use Rattle.std.proofs.Common.{ℕ, length, ap, sym, arith}
use Rattle.std.proofs.lemmas.List.{take_all}
use Rattle.agent_ids.proofs.PositionLists.{positions_long}
use Rattle.agent_ids.proofs.positions.PositionRuns.truncate.Goals as goal

pub returns-else-n-self : goal.returns-else-n-self
returns-else-n-self c =
    let all = positions_long c.self.inside.runs.items 0 c.self.inside.count c.self.invariant in
    let long = ap (length {A = ℕ}) c.self.view_is in
    sym (take_all c.args.n c.args.self.now (omega (arith, all, long, c.if-n-self.false)))
