use Rattle.std.proofs.Common.{sym}
use Rattle.fugue_place.proofs.RunLaws.{first_child, later_child}
use Rattle.fugue_place.proofs.children.child_at.Goals as goal

pub returns-then-behind-eq0 : goal.returns-then-behind-eq0
returns-then-behind-eq0 c = sym (first_child c.args.agent c.args.run.now c.args.behind c.if-behind-eq0.true)

pub returns-else-behind-eq0 : goal.returns-else-behind-eq0
returns-else-behind-eq0 c = sym (later_child c.args.agent c.args.run.now c.args.behind c.if-behind-eq0.false)
