use Rattle.std.proofs.Common.{◌≡◌, ℕ, ◌&&◌, ◌||◌, nat_eq, nat_le, take}
use Rattle.ew_model.specs.Graph.{is_named}
use Rattle.ancestors.proofs.pending.Pending.put_from.Given as goal

abbrev pub invariant-loop-position : goal.invariant-loop-position
invariant-loop-position l = (q : ℕ) → is_named nat_eq l.self q ≡ (is_named nat_eq l.initial.self q || (nat_le l.floor q && is_named nat_eq (take l.position-index l.positions) q))
