use Rattle.right_children.specs.Chains.{HangInLine, AreToldOn}
use Rattle.right_children.specs.Parents.{parent_at}
use Rattle.right_children.proofs.parents.Parents.note_each.Given as goal

-- those before hang so, and nothing else is told anew
abbrev pub invariant-loop-k : goal.invariant-loop-k
invariant-loop-k l = record {
  each : HangInLine (parent_at l.self) l.newest l.k;
  told : AreToldOn (parent_at l.fn.self) (parent_at l.self) l.newest l.k;
}
