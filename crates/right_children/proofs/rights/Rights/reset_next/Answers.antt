use Rattle.right_children.proofs.RightKeeping.{found_whole}
use Rattle.right_children.proofs.rights.Rights.reset_next.Goals as goal

pub reset_under-requires-in-Some-clause-whole : goal.reset_under-requires-in-Some-clause-whole
reset_under-requires-in-Some-clause-whole c = found_whole c.args.self.now c.find-parent.new.self c.find-parent.ensures.same c.requires.whole

pub returns-in_default-clause-whole : goal.returns-in_default-clause-whole
returns-in_default-clause-whole c = found_whole c.args.self.now c.find-parent.new.self c.find-parent.ensures.same c.requires.whole
