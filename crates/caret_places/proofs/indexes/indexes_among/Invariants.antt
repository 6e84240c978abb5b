use Rattle.std.proofs.Common.{◌≡◌, map, take}
use Rattle.carets.specs.Sides.{side}
use Rattle.caret_places.proofs.indexes.indexes_among.Given as goal

abbrev pub invariant-loop-caret : goal.invariant-loop-caret
invariant-loop-caret g l = l.indexes.items ≡ map (side l.graph) (take l.caret-index l.carets)
