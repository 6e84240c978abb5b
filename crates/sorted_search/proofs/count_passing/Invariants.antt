use Rattle.std.proofs.Common.{◌≡◌, ◌+◌, ◌-◌, ◌≤◌, ◌<◌, ◌^◌, Bool, true, false, length}
use Rattle.std.specs.Fn.{ComputesKey}
use Rattle.std.specs.List.{AllWithin}
use Rattle.std.specs.List.Sorted.{IsPartitionedBy}
use Rattle.sorted_search.proofs.count_passing.Given as goal

abbrev pub invariant-loop-shift : goal.invariant-loop-shift
invariant-loop-shift g l =
    record {
      callable : goal.P-IsAlwaysCallable g l.passes;
      few : l.shift < 64;
      within : l.low + 2 ^ l.shift ≤ length l.items + 1;
      known : (p : g.row.T.Denot → Bool) → ComputesKey g.P.FnMut p l.fn.passes → ComputesKey g.P.FnMut p l.passes × (IsPartitionedBy p l.items
          → AllWithin (λ y. p y ≡ true) l.items 0 l.low × AllWithin (λ y. p y ≡ false) l.items (l.low + 2 ^ l.shift - 1) (length l.items));
    }

abbrev pub decreases-loop-shift : goal.decreases-loop-shift
decreases-loop-shift g l = l.shift
