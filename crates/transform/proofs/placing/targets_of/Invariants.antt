use Rattle.std.proofs.Common.{◌≤◌, length}
use Rattle.transform.proofs.Placings.{AreFirst}
use Rattle.transform.proofs.placing.targets_of.Given as goal

abbrev pub invariant-loop-position : goal.invariant-loop-position
invariant-loop-position l = record {
  high : l.position ≤ length l.graph;
  first : AreFirst l.graph l.position l.targets.items;
}
