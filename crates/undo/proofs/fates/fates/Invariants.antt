use Rattle.std.proofs.Common.{◌≡◌}
use Rattle.undo.specs.Undone.{undone_ids}
use Rattle.undo.proofs.Deletions.{fates_by}
use Rattle.undo.proofs.fates.fates.Given as goal

abbrev pub invariant-loop-pair : goal.invariant-loop-pair
invariant-loop-pair l = l.fates.items ≡ fates_by l.graph (undone_ids l.undone) l.pair-index
