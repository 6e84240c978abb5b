use Rattle.std.proofs.Common.{◌≡◌, ◌<◌}
use Rattle.std.specs.List.{All}
use Rattle.history_trials.proofs.kept.fronts_of.Given as goal

abbrev pub invariant-loop-position : goal.invariant-loop-position
invariant-loop-position l = (l.cuts.count ≡ l.position) × All (λ h. h < l.position) l.heads
