use Rattle.std.proofs.Common.{ℕ, ◌-◌, ◌<◌, length}
use Rattle.agreement.specs.Sharing.{IsShared}
use Rattle.agreement.proofs.sharing.holds_all.Given as goal

abbrev pub invariant-loop-position : goal.invariant-loop-position
invariant-loop-position l = (p : ℕ) → p < l.position → IsShared l.a p l.b

abbrev pub decreases-loop-position : goal.decreases-loop-position
decreases-loop-position l = length l.a - l.position
