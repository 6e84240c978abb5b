use Rattle.std.proofs.Common.{ℕ, ◌+◌, ◌<◌, IsSome}
use Rattle.right_children.specs.Rows.{kept_at, KeepsRows}
use Rattle.right_children.proofs.rows.Rows.begin_each.Given as goal

-- those before have rows, and what was told is told
abbrev pub invariant-loop-k : goal.invariant-loop-k
invariant-loop-k l = record {
  begun : (i : ℕ) → i < l.k → IsSome (kept_at l.self (l.from + i));
  rows : KeepsRows l.fn.self l.self;
}
