use Rattle.std.proofs.Common.{◌≡◌, ℕ, ◌+◌, ◌-◌, ◌≤◌, take, length}
use Rattle.ew_model.specs.Touches.{touches}
use Rattle.transform.specs.Keeping.{CountsFrom}
use Rattle.transform.specs.Reaching.{GoesFrom}
use Rattle.transform.specs.Running.{emitted_to}
use Rattle.transform.proofs.kept.walk_on.Given as goal

abbrev pub invariant-loop-next : goal.invariant-loop-next
invariant-loop-next g l = record {
  low : l.position ≤ l.next;
  high : l.next ≤ length l.graph;
  walked : GoesFrom l.graph l.cut l.next l.state;
  emitted : l.ops ≡ emitted_to l.graph l.emit_from l.next;
  steps : (from : ℕ) → CountsFrom l.cut l.position from → l.steps + touches (take l.position l.graph) from ≡ l.fn.steps + touches (take l.next l.graph) from;
}

abbrev pub decreases-loop-next : goal.decreases-loop-next
decreases-loop-next g l = length l.graph - l.next
