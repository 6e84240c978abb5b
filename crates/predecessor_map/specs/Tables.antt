-- Labels of numbers in blocks.
use Rattle.std.specs.Prelude.{◌≡◌, ℕ, ◌+◌, ◌/◌, ◌%◌, ◌≤◌, ◌<◌, length, Option, Some, IsSome}
use Rattle.predecessor_map.specs.declared.table.Table.{Table}
use Rattle.predecessor_map.specs.Entries.{label_in}
use Rattle.predecessor_map.specs.Blocks.{block_of}

-- the label of a number: that of its offset in its block
abbrev pub label_of : Table → ℕ → Option ℕ
label_of t n = label_in (block_of t.first t.blocks.items (n / 64)) (n % 64)

-- the number lies in one of the blocks
pub record HasBlock (t : Table) (n : ℕ) : Type 0 where
  pub low : t.first ≤ n / 64
  pub high : n / 64 < t.first + length t.blocks.items

-- the key is the last number in the blocks before b that has a label, and this is its label
pub record IsLastBelow (kept : ℕ → Option ℕ) (b key label : ℕ) : Type 0 where
  pub before : key / 64 < b
  pub has : kept key ≡ Some label
  pub last : (k : ℕ) → k / 64 < b → IsSome (kept k) → k ≤ key
