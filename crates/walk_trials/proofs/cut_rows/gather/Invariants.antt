use Rattle.std.proofs.Common.{◌≡◌}
use Rattle.walk_trials.proofs.cut_rows.gather.Given as goal

abbrev pub invariant-loop-e : goal.invariant-loop-e
invariant-loop-e l = l.gathered.graph ≡ l.gathered.events.items
