use Rattle.walk_trials.specs.Calls.{IsInLine}
use Rattle.walk_trials.proofs.line_rows.run.Given as goal

abbrev pub invariant-loop-row : goal.invariant-loop-row
invariant-loop-row g l = IsInLine l.state l.calls
