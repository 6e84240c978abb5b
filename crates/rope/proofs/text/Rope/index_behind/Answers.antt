use Rattle.std.proofs.Common.{arith}
use Rattle.rope.proofs.ExtentLaws.{not_reached}
use Rattle.rope.proofs.text.Rope.index_behind.Goals as goal

pub returns-else-rest-eq0 : goal.returns-else-rest-eq0
returns-else-rest-eq0 c = not_reached c.args.measure c.args.self.now.chars c.args.much c.reach-at.result.0 c.reach-at.result.1 c.reach-at.ensures (omega (arith, c.if-rest-eq0.false))
