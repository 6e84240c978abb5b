use Rattle.std.proofs.Common.{◌≡◌, ◌+◌, ◌≤◌, length, drop}
use Rattle.rope.specs.Typed.{typed, with_more}
use Rattle.rope.proofs.typed.put_typed.Given as goal

abbrev pub invariant-loop-op : goal.invariant-loop-op
invariant-loop-op l = (with_more l.leaf l.place (typed (drop l.op-index l.ops)) ≡ with_more l.initial.leaf l.at (typed l.ops))
    × (length l.leaf + length (drop l.op-index l.ops) ≤ 64)
    × (l.place ≤ length l.leaf)
