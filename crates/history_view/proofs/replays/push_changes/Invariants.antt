use Rattle.std.proofs.Common.{◌≡◌, ◌++◌, take}
use Rattle.history_definitions.specs.Replays.{change_lines}
use Rattle.operation_runs.specs.Runs.{run_ops}
use Rattle.history_view.proofs.replays.push_changes.Given as goal

abbrev pub invariant-loop-place : goal.invariant-loop-place
invariant-loop-place l = l.text.items ≡ l.initial.text.items ++ change_lines (take l.place (run_ops l.run))
