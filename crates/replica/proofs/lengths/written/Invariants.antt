use Rattle.std.proofs.Common.{[], length}
use Rattle.ew_model.specs.Operations.{changed_by_all}
use Rattle.replica.specs.Lengths.{lengths_through}
use Rattle.replica.proofs.LengthSteps.{IsOnTheWay}
use Rattle.replica.proofs.lengths.written.Given as goal

abbrev pub invariant-loop-run : goal.invariant-loop-run
invariant-loop-run l = IsOnTheWay l.len l.lengths l.reader (lengths_through [] l.fn.ops) (changed_by_all l.fn.ops [])

abbrev pub decreases-loop-run : goal.decreases-loop-run
decreases-loop-run l = length l.reader
