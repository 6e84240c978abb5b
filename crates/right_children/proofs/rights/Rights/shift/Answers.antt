use Rattle.std.proofs.Common.{subst}
use Rattle.ew_model.specs.declared.node.Node.{Node}
use Rattle.ew_model.specs.declared.node.Node.TheVariants.{Event}
use Rattle.right_children.specs.Rights.{counted, MayShift}
use Rattle.right_children.proofs.RightKeeping.{found_whole, found_may}
use Rattle.right_children.proofs.rights.Rights.shift.Goals as goal

pub shift_under-requires-clause-whole : goal.shift_under-requires-clause-whole
shift_under-requires-clause-whole c = found_whole c.args.self.now c.find-parent.new.self c.find-parent.ensures.same c.requires.whole

pub shift_under-requires-clause-may : goal.shift_under-requires-clause-may
shift_under-requires-clause-may c =
    found_may c.args.self.now c.find-parent.new.self (Event c.in-Event.position) c.args.was c.args.is c.find-parent.ensures.same
    (subst (λ (v : Node). MayShift (counted c.args.self.now) v c.args.was c.args.is) c.in-Event.is c.requires.may)

pub returns-in_default-parent-clause-whole : goal.returns-in_default-parent-clause-whole
returns-in_default-parent-clause-whole c = found_whole c.args.self.now c.find-parent.new.self c.find-parent.ensures.same c.requires.whole
