use Rattle.right_children.specs.Rows.{StepsEach}
use Rattle.right_children.proofs.rows.Rows.shift_in_turn.Given as goal

-- the rows of the positions before are stepped
abbrev pub invariant-loop-position : goal.invariant-loop-position
invariant-loop-position l = StepsEach l.fn.self l.self l.from l.position l.is
