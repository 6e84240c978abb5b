use Rattle.std.proofs.Common.{◌-◌, ◌≤◌, length}
use Rattle.blame.proofs.fitting.fits.Given as goal

abbrev pub invariant-loop-size : goal.invariant-loop-size
invariant-loop-size l = 2 ≤ l.size

abbrev pub decreases-loop-size : goal.decreases-loop-size
decreases-loop-size l = length l.text - l.size
