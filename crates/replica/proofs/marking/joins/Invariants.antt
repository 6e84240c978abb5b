use Rattle.std.proofs.Common.{◌+◌, ◌≤◌, [], length}
use Rattle.ew_model.specs.Edits.{joins_of, in_groups}
use Rattle.replica.proofs.MarkJoins.{MakeAll}
use Rattle.replica.proofs.marking.joins.Given as goal

abbrev pub invariant-loop-room : goal.invariant-loop-room
invariant-loop-room l = record {
  whole : MakeAll l.agent l.label l.made.items l.seq l.before l.room l.left (joins_of l.agent l.label l.first [] (in_groups 16 l.fn.ids));
  numbered : l.seq + length l.left ≤ l.first + length l.fn.ids;
  room : 1 ≤ l.room;
}

abbrev pub decreases-loop-room : goal.decreases-loop-room
decreases-loop-room l = length l.left
