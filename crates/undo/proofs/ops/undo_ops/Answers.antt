use Rattle.std.proofs.Common.{sym, subst}
use Rattle.transform.specs.Placing.{AreTargets}
use Rattle.undo.proofs.ops.undo_ops.Goals as goal

pub fates-requires-clause-targets : goal.fates-requires-clause-targets
fates-requires-clause-targets g c = subst (AreTargets c.args.graph.now) (sym c.as_slice.ensures.value) c.in_ok-placed.ensures.targets
