use Rattle.std.proofs.Common.{ℕ, length, ap, sym, arith}
use Rattle.std.proofs.lemmas.Option.{slice_get_past}
use Rattle.agent_ids.proofs.PositionLists.{positions_long}
use Rattle.agent_ids.proofs.positions.PositionRuns.get.Goals as goal

pub returns-else-seq-self : goal.returns-else-seq-self
returns-else-seq-self c =
    let all = positions_long c.self.inside.runs.items 0 c.self.inside.count c.self.invariant in
    let long = ap (length {A = ℕ}) c.self.view_is in
    sym (slice_get_past c.args.self.now c.args.seq (omega (arith, all, long, c.if-seq-self.false)))
