use Rattle.std.proofs.Common.{◌≡◌, Some, map, take}
use Rattle.carets.specs.Sides.{caret_in, text_chars}
use Rattle.caret_places.proofs.taking.carets_at.Given as goal

abbrev pub invariant-loop-at : goal.invariant-loop-at
invariant-loop-at g l = map Some l.carets.items ≡ map (caret_in (text_chars l.part)) (take l.at-index l.indexes)
