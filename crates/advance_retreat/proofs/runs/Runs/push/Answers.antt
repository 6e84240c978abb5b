use Rattle.std.proofs.Common.{◌++◌, arith}
use Rattle.std.specs.Option.{option_to_list}
use Rattle.advance_retreat.proofs.RunLaws.{few}
use Rattle.advance_retreat.proofs.runs.Runs.push.Goals as goal

pub overflow_add-self : goal.overflow_add-self
overflow_add-self c =
    let all = few (c.self.inside.before.items ++ option_to_list c.self.inside.last) c.self.invariant.0 in
    let is = c.self.invariant.2 in
    omega (arith, all, is)
