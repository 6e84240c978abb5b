use Rattle.std.proofs.Common.{take}
use Rattle.rope.specs.Typed.{IsTyped}
use Rattle.rope.proofs.typed.typed_length.Given as goal

abbrev pub invariant-loop-many : goal.invariant-loop-many
invariant-loop-many l = IsTyped l.at (take l.many l.ops)
