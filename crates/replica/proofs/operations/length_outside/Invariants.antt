use Rattle.std.proofs.Common.{◌≡◌, ◌+◌, ◌≤◌, ℕ, List, length, drop}
use Rattle.replica.proofs.Doing.{IsBehind}
use Rattle.replica.proofs.operations.length_outside.Given as goal

abbrev pub invariant-loop-op : goal.invariant-loop-op
invariant-loop-op l = record {
  behind : (text : List ℕ) → length text ≡ l.len → IsBehind text l.ops (drop l.op-index l.ops) l.now;
  small : l.now ≤ l.len + l.op-index;
}
