use Rattle.std.proofs.Common.{◌≡◌, ◌++◌, drop, map, take}
use Rattle.egw_c.specs.Changes.{change_of}
use Rattle.egw_c.proofs.kept.KeptDocument.copy_changes.Given as goal

abbrev pub invariant-loop-i : goal.invariant-loop-i
invariant-loop-i l = l.out ≡ take l.i (map change_of l.fn.self.changes) ++ drop l.i l.fn.out
