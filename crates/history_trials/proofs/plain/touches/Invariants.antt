use Rattle.std.proofs.Common.{◌≡◌, ◌+◌, ◌*◌, ◌≤◌, take, drop, length}
use Rattle.ew_model.specs.Touches.{touches, touches_after}
use Rattle.history_trials.proofs.plain.touches.Given as goal

abbrev pub invariant-loop-i : goal.invariant-loop-i
invariant-loop-i l = record {
  rest : touches l.history l.cut ≡ l.touches + touches_after (take l.i l.history) l.prepared.items (drop l.i l.history);
  few : length l.prepared.items ≤ l.i;
  small : l.touches ≤ l.i * l.i;
}
