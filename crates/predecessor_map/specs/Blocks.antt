-- Blocks of 64 numbers that follow one another.
use Rattle.std.specs.Prelude.{ℕ, zero, suc, ◌-◌, List, [], ◌∷◌, nat_lt, if◌then◌else◌}
use Rattle.predecessor_map.specs.declared.block.Block.{Block}

-- the entries of the block at this place, and none where there is no block
abbrev pub entries_at : List Block → ℕ → List (ℕ × ℕ)
entries_at [] i = []
entries_at (b ∷ bs) zero = b.entries.items
entries_at (b ∷ bs) (suc i) = entries_at bs i

-- the entries of the block with this number, where the blocks are numbered from the first number on; none where there is no such block
abbrev pub block_of : ℕ → List Block → ℕ → List (ℕ × ℕ)
block_of first blocks b = if nat_lt b first then [] else entries_at blocks (b - first)
