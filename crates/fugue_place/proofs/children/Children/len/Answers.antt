use Rattle.std.proofs.Common.{length, ap, arith}
use Rattle.fugue_place.specs.Members.{Listed}
use Rattle.fugue_place.proofs.RunLaws.{length_in}
use Rattle.fugue_place.proofs.children.Children.len.Goals as goal

pub returns-clause-count : goal.returns-clause-count
returns-clause-count c =
    let all = length_in c.self.inside.names.keys c.self.inside.runs.items 0 c.self.inside.count c.self.invariant in
    let long = ap (λ (l : Listed). length l.items) c.self.view_is in
    omega (arith, all, long)
