use Rattle.std.proofs.Common.{◌≡◌}
use Rattle.transform.proofs.DeletionTargets.{deleted_by}
use Rattle.transform.proofs.tombstones.deleted.Given as goal

abbrev pub invariant-loop-pair : goal.invariant-loop-pair
invariant-loop-pair l = l.deleted.items ≡ deleted_by l.graph l.pair-index
