use Rattle.std.proofs.Common.{◌-◌, ◌≤◌, length}
use Rattle.blame.proofs.fitting.may_fit.Given as goal

abbrev pub invariant-loop-seen : goal.invariant-loop-seen
invariant-loop-seen l = 2 ≤ l.seen

abbrev pub decreases-loop-seen : goal.decreases-loop-seen
decreases-loop-seen l = length l.text - l.seen
