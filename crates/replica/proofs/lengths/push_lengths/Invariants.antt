use Rattle.std.proofs.Common.{◌≡◌, ℕ, List, ◌++◌, drop}
use Rattle.ew_model.specs.Operations.{changed_by_all}
use Rattle.replica.specs.Lengths.{lengths_through}
use Rattle.replica.proofs.LengthSteps.{IsOnTheWay}
use Rattle.replica.proofs.lengths.push_lengths.Given as goal

abbrev pub invariant-loop-op : goal.invariant-loop-op
invariant-loop-op l = record {
  begun : (more : List ℕ) × (l.lengths ≡ l.initial.lengths ++ more);
  left : IsOnTheWay l.len l.lengths (drop l.op-index l.ops) (l.initial.lengths ++ lengths_through l.text.characters l.ops) (changed_by_all l.ops l.text.characters);
}
