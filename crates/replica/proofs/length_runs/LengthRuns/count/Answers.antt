use Rattle.std.proofs.Common.{length, ap, arith}
use Rattle.replica.proofs.LengthRunLaws.{length-lengths_in}
use Rattle.replica.proofs.length_runs.LengthRuns.count.Goals as goal

pub returns : goal.returns
returns c =
    let first = c.self.invariant.first in
    let all = length-lengths_in c.self.inside.runs.items c.self.inside.count c.self.invariant.row in
    let seen = ap length c.self.view_is in
    omega (arith, first, all, seen)
