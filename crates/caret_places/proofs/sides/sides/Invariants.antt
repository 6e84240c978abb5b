use Rattle.std.proofs.Common.{◌≡◌}
use Rattle.caret_places.proofs.Along.{shown_first, sides_by}
use Rattle.caret_places.proofs.sides.sides.Given as goal

abbrev pub invariant-loop-position : goal.invariant-loop-position
invariant-loop-position l = record {
  shown : l.shown ≡ shown_first l.graph l.position-index;
  sides : l.sides.items ≡ sides_by l.graph l.position-index;
}
