-- Which cuts stop being critical when an event is appended, by positions alone.
use Rattle.std.specs.Prelude.{◌≡◌, ℕ, suc, ◌-◌, Bool, true, List, length, take, nat_eq, slice_get}
use Rattle.std.specs.Option.{option_map_or}
use Rattle.std.specs.Cmp.Lexicographic.{pointwise}
use Rattle.ew_model.specs.Positions.{AreParents, IsHistoryOfParents, frontier_of, is_reduced_at, is_cut_at}
use Rattle.ew_model.specs.CutChange.{CutsChange}

-- the position behind the last of the parents, or 0 where there are none
abbrev pub past_parents : List ℕ → ℕ
past_parents parents = option_map_or (λ p. suc p) (slice_get parents (length parents - 1)) 0

-- the positions are the frontier
abbrev pub is_frontier : List (List ℕ) → List ℕ → Bool
is_frontier history positions = pointwise nat_eq positions (frontier_of history)

-- the cuts of a history with one more event
abbrev pub CutsAfterAt : List (List ℕ) → List ℕ → Type 0
CutsAfterAt history parents = CutsChange is_cut_at history parents (past_parents parents) (is_frontier (take (past_parents parents) history) parents)

-- Where the new event's parents are reduced, the cuts are those that stay, and the new whole length.
abbrev pub CutsStepAt : Type 0
CutsStepAt = (history : List (List ℕ)) (parents : List ℕ) → IsHistoryOfParents history → AreParents (length history) parents → is_reduced_at history parents ≡ true → CutsAfterAt history parents
