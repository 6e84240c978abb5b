use Rattle.std.proofs.Common.{◌≡◌, ◌+◌, length}
use Rattle.right_children.specs.Rows.{KeepsRows}
use Rattle.right_children.proofs.rows.Rows.lengthen.Given as goal

-- the line ends below the position, and tells what was told
abbrev pub invariant-loop-gap : goal.invariant-loop-gap
invariant-loop-gap l = record {
  len : l.gap ≡ l.self.first + length l.self.line.items;
  rows : KeepsRows l.fn.self l.self;
}
