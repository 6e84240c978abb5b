use Rattle.std.proofs.Common.{◌≡◌, ◌-◌, ◌≤◌, drop}
use Rattle.ew_model.specs.Operations.{changed_by_all}
use Rattle.ew_model.specs.TextLaws.{AllFit}
use Rattle.operation_runs.specs.Runs.{run_ops}
use Rattle.rope.specs.Lengths.{AllStayShort}
use Rattle.rope.specs.Whole.{chars_of_root, IsRoot}
use Rattle.rope.proofs.root.insert_run.Given as goal

-- the insertions that are left make of the text so far what all make of the first
abbrev pub invariant-loop-from : goal.invariant-loop-from
invariant-loop-from l = (l.from ≤ l.count)
    × AllFit (chars_of_root l.root) (drop l.from (run_ops l.run))
    × AllStayShort (chars_of_root l.root) (drop l.from (run_ops l.run))
    × IsRoot l.root
    × (changed_by_all (drop l.from (run_ops l.run)) (chars_of_root l.root) ≡ changed_by_all (run_ops l.run) (chars_of_root l.initial.root))

abbrev pub decreases-loop-from : goal.decreases-loop-from
decreases-loop-from l = l.count - l.from
