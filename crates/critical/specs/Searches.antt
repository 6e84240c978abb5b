-- What is looked for among rising numbers.
use Rattle.std.specs.Prelude.{◌≡◌, ◌⊎◌, ℕ, ◌≤◌, Bool, List, [], Some, nat_eq, slice_get, slice_index_or}
use Rattle.std.specs.Cmp.Lexicographic.{pointwise}
use Rattle.ew_model.specs.Sets.{Among}

-- the test tells whether the heads below this cut, if it is there, are these
abbrev pub TellsHeads : List ℕ → List (List ℕ) → ℕ → List ℕ → Bool → Type 0
TellsHeads cuts heads cut positions same = (place : ℕ) → slice_get cuts place ≡ Some cut → same ≡ pointwise nat_eq positions (slice_index_or heads place [])

-- the greatest of the numbers that is at most m, or 0 where there is none
pub record IsGreatestTo (numbers : List ℕ) (m : ℕ) (found : ℕ) : Type 0 where
  pub within : found ≤ m
  pub there : (found ≡ 0) ⊎ Among found numbers
  pub greatest : (k : ℕ) → Among k numbers → k ≤ m → k ≤ found
