use Rattle.std.proofs.Common.{arith}
use Rattle.rope.proofs.ExtentLaws.{units}
use Rattle.rope.proofs.branch.Branch.extent.Goals as goal

pub returns-in-Utf16 : goal.returns-in-Utf16
returns-in-Utf16 c = rw c.in-Utf16.is (omega (arith, c.len.ensures, c.wide.ensures, c.from.ensures, c.from-in-Utf16.ensures, units c.args.self.now.chars))
