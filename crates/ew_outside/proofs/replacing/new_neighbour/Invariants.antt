use Rattle.std.proofs.Common.{◌≡◌}
use Rattle.ew_outside.proofs.replacing.new_neighbour.Given as goal

abbrev pub invariant-loop-number : goal.invariant-loop-number
invariant-loop-number g l = record { quiet : l.faults ≡ l.fn.faults }
