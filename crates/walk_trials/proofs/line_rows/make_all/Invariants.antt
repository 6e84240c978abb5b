use Rattle.walk_trials.specs.Calls.{IsInLine}
use Rattle.walk_trials.proofs.line_rows.make_all.Given as goal

abbrev pub invariant-loop-time : goal.invariant-loop-time
invariant-loop-time g l = IsInLine l.state l.calls
