use Rattle.std.proofs.Common.{◌≡◌, length}
use Rattle.ew_model.specs.Operations.{changed_by_all}
use Rattle.ew_model.specs.TextLaws.{AllFit}
use Rattle.rope.specs.Lengths.{AllStayShort}
use Rattle.rope.specs.Whole.{chars_of_root, IsRoot}
use Rattle.rope.proofs.root.change_by_runs.Given as goal

-- the operations that are left make of the text so far what all make of the first
abbrev pub invariant-loop-run : goal.invariant-loop-run
invariant-loop-run l = (AllFit (chars_of_root l.root) l.reader)
    × AllStayShort (chars_of_root l.root) l.reader
    × IsRoot l.root
    × (changed_by_all l.reader (chars_of_root l.root) ≡ changed_by_all l.ops (chars_of_root l.initial.root))

abbrev pub decreases-loop-run : goal.decreases-loop-run
decreases-loop-run l = length l.reader
