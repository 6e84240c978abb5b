-- Labels of numbers, as functions from numbers.
use Rattle.std.specs.Prelude.{◌≡◌, ℕ, ◌≤◌, Option, Some, None, IsSome}
use Rattle.std.specs.Option.{option_or}

-- the key is the last number up to n that has a label, and this is its label
pub record IsLastIn (kept : ℕ → Option ℕ) (n key label : ℕ) : Type 0 where
  pub before : key ≤ n
  pub has : kept key ≡ Some label
  pub last : (k : ℕ) → k ≤ n → IsSome (kept k) → k ≤ key

-- the last number up to this one that has a label, with that, or none where no such number has one
abbrev pub AreLastIn : (ℕ → Option ℕ) → ℕ → Option (ℕ × ℕ) → Type 0
AreLastIn kept n None = (k : ℕ) → k ≤ n → kept k ≡ None
AreLastIn kept n (Some e) = IsLastIn kept n e.0 e.1

-- the label that a number has in the first of two maps, or else in the second
abbrev pub first_of : (ℕ → Option ℕ) → (ℕ → Option ℕ) → ℕ → Option ℕ
first_of f g n = option_or (f n) (g n)
