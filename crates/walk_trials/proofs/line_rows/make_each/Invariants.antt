use Rattle.walk_trials.specs.Calls.{IsInLine}
use Rattle.walk_trials.proofs.line_rows.make_each.Given as goal

abbrev pub invariant-loop-one : goal.invariant-loop-one
invariant-loop-one g l = IsInLine l.state l.calls
