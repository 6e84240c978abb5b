use Rattle.std.proofs.Common.{◌+◌, ◌-◌, ◌≤◌, length}
use Rattle.ew_model.specs.Ancestors.{ids_of}
use Rattle.stored_histories.specs.IdRuns.{GoOnTo}
use Rattle.stored_histories.proofs.written.end_of_ids.Given as goal

abbrev pub invariant-loop-many : goal.invariant-loop-many
invariant-loop-many l = record {
  some : 1 ≤ l.many;
  within : l.position + l.many ≤ length l.graph;
  ids : GoOnTo (ids_of l.graph) l.first l.position (l.position + l.many);
}

abbrev pub decreases-loop-many : goal.decreases-loop-many
decreases-loop-many l = length l.graph - l.many
