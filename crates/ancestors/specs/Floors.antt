-- Versions that share the first events of a history.
use Rattle.std.specs.Prelude.{◌≡◌, ℕ, ◌<◌, true, List, length}
use Rattle.ew_model.specs.Positions.{is_known_at}

-- the version has every event below the floor
abbrev pub HasAllBelow : List (List ℕ) → List ℕ → ℕ → Type 0
HasAllBelow history version floor = (p : ℕ) → p < floor → p < length history → is_known_at history version p ≡ true
