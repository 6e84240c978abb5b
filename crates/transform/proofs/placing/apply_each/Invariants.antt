use Rattle.std.proofs.Common.{◌≡◌, ◌+◌, ◌≤◌, take, length}
use Rattle.ew_model.specs.Touches.{touches}
use Rattle.transform.proofs.WholeWalks.{IsWhole}
use Rattle.transform.proofs.placing.apply_each.Given as goal

abbrev pub invariant-loop-position : goal.invariant-loop-position
invariant-loop-position g l = record {
  high : l.position ≤ length l.graph;
  whole : IsWhole l.graph l.position l.state;
  steps : l.steps ≡ l.fn.steps + touches (take l.position l.graph) 0;
}
