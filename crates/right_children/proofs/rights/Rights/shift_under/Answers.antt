use Rattle.right_children.proofs.RightMoves.{may_step}
use Rattle.right_children.proofs.rights.Rights.shift_under.Goals as goal

pub shift_count-requires-clause-has : goal.shift_count-requires-clause-has
shift_count-requires-clause-has c = c.requires.whole c.args.position c.args.parent c.requires.parent

pub shift_count-requires-clause-may : goal.shift_count-requires-clause-may
shift_count-requires-clause-may c = may_step _ c.args.was c.args.is c.if-was-is.false (c.requires.may c.args.parent c.requires.parent)
