use Rattle.std.proofs.Common.{◌≡◌, ◌*◌, ◌≤◌, length}
use Rattle.ew_model.specs.Operations.{changed_by_all}
use Rattle.ew_model.specs.TextLaws.{AllFit}
use Rattle.rope.specs.Changes.{room_for_all}
use Rattle.rope.specs.Lengths.{AllStayShort}
use Rattle.rope.specs.Whole.{chars_of_root, IsRoot}
use Rattle.rope.proofs.root.change_all.Given as goal

-- the operations that are left make of the text so far what all make of the first
abbrev pub invariant-loop-rest : goal.invariant-loop-rest
invariant-loop-rest l = (AllFit (chars_of_root l.root) l.rest)
    × AllStayShort (chars_of_root l.root) l.rest
    × IsRoot l.root
    × (changed_by_all l.rest (chars_of_root l.root) ≡ changed_by_all l.ops (chars_of_root l.initial.root))
    × (room_for_all l.ops ≤ l.initial.spares.leaves → room_for_all l.rest ≤ l.spares.leaves)
    × (25 * room_for_all l.ops ≤ l.initial.spares.nodes → 25 * room_for_all l.rest ≤ l.spares.nodes)

abbrev pub decreases-loop-rest : goal.decreases-loop-rest
decreases-loop-rest l = length l.rest
