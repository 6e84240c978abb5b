use Rattle.std.proofs.Common.{◌≡◌, ◌≤◌, length}
use Rattle.blame_definitions.specs.Widths.{fits, greatest}
use Rattle.blame.proofs.fitting.shown_len.Given as goal

abbrev pub invariant-loop-k : goal.invariant-loop-k
invariant-loop-k l = (l.k ≤ length l.text) × (greatest (fits l.columns l.text) l.k ≡ greatest (fits l.columns l.text) (length l.text))

abbrev pub decreases-loop-k : goal.decreases-loop-k
decreases-loop-k l = l.k
