-- The labels in a map, wherever they are kept.
use Rattle.std.specs.Prelude.{ℕ, Option, length}
use Rattle.std.specs.Ordering.{nat_cmp}
use Rattle.std.specs.BTreeMap.{get}
use Rattle.predecessor_map.specs.declared.map.PredecessorMap.{PredecessorMap}
use Rattle.predecessor_map.specs.Labels.{first_of}
use Rattle.predecessor_map.specs.Tables.{label_of}

-- the label that the map has for a number: that of the map beside the blocks, or else that of its block
abbrev pub label_at : PredecessorMap → ℕ → Option ℕ
label_at m = first_of (get nat_cmp m.others) (label_of m.table)

-- how many blocks the map keeps, whether they have labels or not
abbrev pub blocks_of : PredecessorMap → ℕ
blocks_of m = length m.table.blocks.items
