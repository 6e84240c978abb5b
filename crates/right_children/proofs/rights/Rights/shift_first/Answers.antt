use Rattle.ew_model.specs.declared.node.Node.TheVariants.{Event}
use Rattle.right_children.proofs.RightKeeping.{found_whole, found_may}
use Rattle.right_children.proofs.rights.Rights.shift_first.Goals as goal

pub shift_under-requires-clause-whole : goal.shift_under-requires-clause-whole
shift_under-requires-clause-whole c = found_whole c.args.self.now c.find-parent.new.self c.find-parent.ensures.same c.requires.whole

pub shift_under-requires-clause-may : goal.shift_under-requires-clause-may
shift_under-requires-clause-may c = found_may c.args.self.now c.find-parent.new.self (Event c.args.position) c.args.was c.args.is c.find-parent.ensures.same c.requires.may

pub returns-in_default-clause-whole : goal.returns-in_default-clause-whole
returns-in_default-clause-whole c = found_whole c.args.self.now c.find-parent.new.self c.find-parent.ensures.same c.requires.whole
