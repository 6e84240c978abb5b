use Rattle.std.proofs.Common.{◌≡◌, ◌++◌, length}
use Rattle.history_definitions.specs.Replays.{change_lines}
use Rattle.history_view.proofs.replays.changes_text.Given as goal

-- what is written and the lines of what is left are all lines
abbrev pub invariant-loop-run : goal.invariant-loop-run
invariant-loop-run l = l.text.items ++ change_lines l.reader ≡ change_lines l.ops

abbrev pub decreases-loop-run : goal.decreases-loop-run
decreases-loop-run l = length l.reader
