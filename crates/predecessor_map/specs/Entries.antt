-- The labels in one block, by their offsets.
use Rattle.std.specs.Prelude.{◌≡◌, ℕ, ◌<◌, ◌≤◌, List, length, Option, nat_eq, slice_index_or}
use Rattle.std.specs.List.{AllWithin}
use Rattle.std.specs.Map.{lookup}

-- the label of an offset
abbrev pub label_in : List (ℕ × ℕ) → ℕ → Option ℕ
label_in es k = lookup (nat_eq k) es

-- each offset is greater than the one before it
abbrev pub IsRising : List (ℕ × ℕ) → Type 0
IsRising es = (i j : ℕ) (d : ℕ × ℕ) → i < j → j < length es → (slice_index_or es i d).0 < (slice_index_or es j d).0

-- the entry at this place is that of the offset
pub record IsEntryOf (es : List (ℕ × ℕ)) (k i : ℕ) : Type 0 where
  pub there : i < length es
  pub is : (d : ℕ × ℕ) → (slice_index_or es i d).0 ≡ k

-- no entry is that of the offset, and it would stand at this place
pub record IsGapFor (es : List (ℕ × ℕ)) (k i : ℕ) : Type 0 where
  pub bound : i ≤ length es
  pub below : AllWithin (λ e. e.0 < k) es 0 i
  pub above : AllWithin (λ e. k < e.0) es i (length es)
