use Rattle.std.proofs.Common.{◌≡◌, take}
use Rattle.walk_trials.proofs.cut_rows.copies_of.Given as goal

abbrev pub invariant-loop-e : goal.invariant-loop-e
invariant-loop-e l = l.copies.items ≡ take l.e-index l.events
