use Rattle.std.proofs.Common.{◌≡◌, ◌≤◌, ◌-◌, ℕ, length, max}
use Rattle.predecessor_map.specs.Blocks.{entries_at}
use Rattle.predecessor_map.proofs.table.grow.Given as goal

abbrev pub invariant-loop-alloc : goal.invariant-loop-alloc
invariant-loop-alloc l =
    record {
      same : (i : ℕ) → entries_at l.blocks.items i ≡ entries_at l.fn.blocks.items i;
      bound : length l.blocks.items ≤ max (length l.fn.blocks.items) l.count;
    }

abbrev pub decreases-loop-alloc : goal.decreases-loop-alloc
decreases-loop-alloc l = l.count - length l.blocks.items
