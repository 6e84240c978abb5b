-- What is pending for two walks side by side.
use Rattle.std.specs.Prelude.{◌≡◌, ℕ, ◌<◌, ◌≤◌, ◌||◌, Bool, true, false, List, nat_eq}
use Rattle.ew_model.specs.Graph.{is_named}
use Rattle.ancestors.specs.declared.sides.Side.{Side}
use Rattle.ancestors.specs.declared.sides.Side.TheVariants.{Left, Right, Both}
use Rattle.ancestors.specs.declared.sides.Sides.{Sides}

-- the left walk has it
abbrev pub has_left : Side → Bool
has_left Left = true
has_left Right = false
has_left Both = true

-- the right walk has it
abbrev pub has_right : Side → Bool
has_right Left = false
has_right Right = true
has_right Both = true

-- pending for a walk: put in for it, or for both at once
abbrev pub is_on : List ℕ → List ℕ → ℕ → Bool
is_on own both position = is_named nat_eq own position || is_named nat_eq both position

-- pending for the left walk
abbrev pub on_left : Sides → ℕ → Bool
on_left sides position = is_on sides.left sides.both position

-- pending for the right walk
abbrev pub on_right : Sides → ℕ → Bool
on_right sides position = is_on sides.right sides.both position

-- both have the same positions from the floor on
abbrev pub AgreeFrom : ℕ → (ℕ → Bool) → (ℕ → Bool) → Type 0
AgreeFrom floor left right = (position : ℕ) → floor ≤ position → left position ≡ right position

-- one of the two has the position, and neither has one above it
pub record IsHighest (left right : ℕ → Bool) (position : ℕ) : Type 0 where
  pub either : (left position || right position) ≡ true
  pub left_above : (m : ℕ) → position < m → left m ≡ false
  pub right_above : (m : ℕ) → position < m → right m ≡ false
