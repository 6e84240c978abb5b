use Rattle.std.proofs.Common.{◌≡◌, ◌++◌, map, take, drop}
use Rattle.right_children.specs.Rows.{stepped}
use Rattle.right_children.proofs.rows.step_each.Given as goal

-- the rows before the index are stepped
abbrev pub invariant-loop-row : goal.invariant-loop-row
invariant-loop-row l = l.rows ≡ map (λ row. stepped row l.more) (take l.row-index l.initial.rows) ++ drop l.row-index l.initial.rows
