use Rattle.std.proofs.Common.{◌-◌, ◌≤◌, length}
use Rattle.event_file.specs.RunWriting.{ArePut}
use Rattle.stored_histories.proofs.written.put_events.Given as goal

abbrev pub invariant-loop-position : goal.invariant-loop-position
invariant-loop-position l = record {
  put : ArePut l.graph l.position l.writer;
  within : l.position ≤ length l.graph;
}

abbrev pub decreases-loop-position : goal.decreases-loop-position
decreases-loop-position l = length l.graph - l.position
