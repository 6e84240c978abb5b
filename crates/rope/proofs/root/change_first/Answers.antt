use Rattle.rope.proofs.DeletionRuns.{deletes_one}
use Rattle.rope.proofs.root.change_first.Goals as goal

pub change_deleted-requires-clause-first : goal.change_deleted-requires-clause-first
change_deleted-requires-clause-first c = deletes_one c.args.ops.now c.in-Del.at _ c.requires.some c.in-Del.is
