use Rattle.std.proofs.Common.{◌≡◌, ◌-◌, ◌≤◌, length, take}
use Rattle.ew_model.specs.Writable.{agents_of}
use Rattle.stored_histories.proofs.written.agents_in.Given as goal

abbrev pub invariant-loop-position : goal.invariant-loop-position
invariant-loop-position l = record {
  so_far : l.agents ≡ agents_of (take l.position l.graph);
  within : l.position ≤ length l.graph;
}

abbrev pub decreases-loop-position : goal.decreases-loop-position
decreases-loop-position l = length l.graph - l.position
