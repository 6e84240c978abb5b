use Rattle.std.proofs.Common.{◌+◌}
use Rattle.std.proofs.Math.Nat.{div-le_self}
use Rattle.order_tree.proofs.label.part_of.Goals as goal

pub returns : goal.returns
returns g = div-le_self g.args.gap (g.from.result + 1)
