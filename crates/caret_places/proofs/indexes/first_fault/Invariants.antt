use Rattle.std.proofs.Common.{◌≡◌, drop}
use Rattle.caret_places.specs.Faults.{first_fault}
use Rattle.caret_places.proofs.indexes.first_fault.Given as goal

abbrev pub invariant-loop-caret : goal.invariant-loop-caret
invariant-loop-caret l = first_fault l.graph l.carets ≡ first_fault l.graph (drop l.caret-index l.carets)
