use Rattle.std.proofs.Common.{◌≡◌, ◌+◌, ◌-◌, ◌≤◌, take, length}
use Rattle.ew_model.specs.Touches.{touches}
use Rattle.transform.specs.Reaching.{WalkedTo}
use Rattle.transform.specs.Running.{emitted_to}
use Rattle.transform.proofs.walking.walk_runs.Given as goal

abbrev pub invariant-loop-next : goal.invariant-loop-next
invariant-loop-next g l = record {
  low : l.from_cut ≤ l.next;
  high : l.next ≤ length l.graph;
  walked : WalkedTo l.graph l.from_cut l.next l.line l.state;
  emitted : l.ops ≡ emitted_to l.graph l.emit_from l.next;
  steps : l.steps ≡ l.fn.steps + touches (take l.next l.graph) l.from_cut;
}

abbrev pub decreases-loop-next : goal.decreases-loop-next
decreases-loop-next g l = length l.graph - l.next
