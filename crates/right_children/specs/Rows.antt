-- How many right children of the nodes of events are known, by the events' positions.
use Rattle.std.specs.Prelude.{◌≡◌, ℕ, ◌+◌, ◌-◌, ◌^◌, ◌<◌, Bool, ◌&&◌, true, false, List, slice_get, Option, Some, None, IsSome, nat_le, nat_lt, if◌then◌else◌, unwrap_or}
use Rattle.std.specs.BTreeMap.{get}
use Rattle.std.specs.Option.{option_or}
use Rattle.std.specs.Ordering.{nat_cmp}
use Rattle.right_children.specs.declared.rows.Rows.{Rows}

-- the row of a position among rows in line, which begin at a position
abbrev pub in_line : ℕ → List ℕ → ℕ → Option ℕ
in_line first line n = if nat_lt n first then None else slice_get line (n - first)

-- the row that is kept of a position: in line, else elsewhere
abbrev pub kept_at : Rows → ℕ → Option ℕ
kept_at r n = option_or (in_line r.first r.line.items n) (get nat_cmp r.others n)

-- the row of a position, which is 0 where none is kept
abbrev pub row_at : Rows → ℕ → ℕ
row_at r n = unwrap_or (kept_at r n) 0

-- no row changes, and none that is kept goes
pub record KeepsRows (old new : Rows) : Type 0 where
  pub same : (n : ℕ) → row_at new n ≡ row_at old n
  pub kept : (n : ℕ) → IsSome (kept_at old n) → IsSome (kept_at new n)

-- one more, or one fewer
abbrev pub stepped : ℕ → Bool → ℕ
stepped n more = if more then n + 1 else n - 1

-- a number of 32 bits can go there
abbrev pub MayStep : ℕ → Bool → Type 0
MayStep n more = (more ≡ false → 0 < n) × (more ≡ true → n + 1 < 2 ^ 32)

-- the rows of the positions from the first on that are below the second are stepped, and no other changes
abbrev pub StepsEach : Rows → Rows → ℕ → ℕ → Bool → Type 0
StepsEach old new from to more = (n : ℕ) → kept_at new n ≡ (if nat_le from n && nat_lt n to then Some (stepped (row_at old n) more) else kept_at old n)
