use Rattle.right_children.proofs.rights.Rights.reset_under.Goals as goal

pub reset_count-requires : goal.reset_count-requires
reset_count-requires c = c.requires.whole c.args.position c.args.parent c.requires.parent
