use Rattle.std.proofs.Common.{◌≡◌, take}
use Rattle.character_runs.specs.EventPositions.{event_positions}
use Rattle.character_runs.specs.Laid.{chars_in}
use Rattle.character_runs.proofs.EventPositions.{given_runs}
use Rattle.character_runs.proofs.runs.event_positions.positions_of_each.Given as goal

abbrev pub invariant-loop-k : goal.invariant-loop-k
invariant-loop-k l = l.positions.items ≡ event_positions (chars_in (given_runs (take l.k l.given.items)))
