use Rattle.std.proofs.Common.{◌≡◌, ℕ, ◌&&◌, ◌||◌, nat_eq, take}
use Rattle.ew_model.specs.Graph.{is_named}
use Rattle.ancestors.specs.Sides.{has_left, has_right, on_left, on_right}
use Rattle.ancestors.proofs.sides.Sides.put_all.Given as goal

abbrev pub invariant-loop-position : goal.invariant-loop-position
invariant-loop-position l =
    ((q : ℕ) → on_left l.self q ≡ (on_left l.initial.self q || (has_left l.side && is_named nat_eq (take l.position-index l.positions) q)))
    × ((q : ℕ) → on_right l.self q ≡ (on_right l.initial.self q || (has_right l.side && is_named nat_eq (take l.position-index l.positions) q)))
