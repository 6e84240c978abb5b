use Rattle.std.proofs.Common.{◌≡◌, ℕ, ◌+◌, ◌-◌, ◌<◌, ◌≤◌}
use Rattle.transform.specs.Reaching.{IsReadyAt, Reached}
use Rattle.transform.specs.Running.{emitted_to}
use Rattle.transform.proofs.run.apply_run.Given as goal

abbrev pub invariant-loop-place : goal.invariant-loop-place
invariant-loop-place g l = record {
  high : l.place ≤ l.run.count;
  ready : (cut : ℕ) → IsReadyAt l.graph cut l.run.position l.fn.state → l.place < l.run.count → IsReadyAt l.graph cut (l.run.position + l.place) l.state;
  walked : (cut : ℕ) → IsReadyAt l.graph cut l.run.position l.fn.state → 0 < l.place → Reached l.graph cut (l.run.position + l.place) l.state;
  emitted : l.ops ≡ emitted_to l.graph l.emit_from (l.run.position + l.place);
  steps : l.steps ≡ l.fn.steps + l.place;
}

abbrev pub decreases-loop-place : goal.decreases-loop-place
decreases-loop-place g l = l.run.count - l.place
