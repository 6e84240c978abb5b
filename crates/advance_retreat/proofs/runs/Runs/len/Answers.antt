use Rattle.std.proofs.Common.{◌++◌, arith}
use Rattle.std.specs.Option.{option_to_list}
use Rattle.advance_retreat.proofs.RunLaws.{few}
use Rattle.advance_retreat.proofs.runs.Runs.len.Goals as goal

pub returns-clause-few : goal.returns-clause-few
returns-clause-few c =
    let all = few (c.self.inside.before.items ++ option_to_list c.self.inside.last) c.self.invariant.0 in
    let is = c.self.invariant.2 in
    omega (arith, all, is)
