use Rattle.std.proofs.Common.{ℕ, ◌+◌, ◌≤◌, List, ◌++◌, length}
use Rattle.ew_model.specs.Edits.{Edit}
use Rattle.ew_model.specs.Scripts.{Numbered, LinesMean, IsFirstUnreadable, MeansEdit, IsFirstBadLine, IsScript, lines_of}
use Rattle.script_reader.specs.Meaning.{numbered_edits}
use Rattle.script_reader.proofs.script.read_script.Given as goal

-- what the lines that are left mean completes the script; the first bad one of them is the first of all
abbrev pub invariant-loop-rest : goal.invariant-loop-rest
invariant-loop-rest l = record {
  script : (items : List (Numbered Edit)) → LinesMean MeansEdit (l.number + 1) (lines_of l.rest) items → IsScript l.b (numbered_edits l.edits.items ++ items);
  bad_line : (bad : ℕ) → IsFirstUnreadable MeansEdit (l.number + 1) (lines_of l.rest) bad → IsFirstBadLine l.b bad;
  counted : l.number + length l.rest ≤ length l.b;
}

abbrev pub decreases-loop-rest : goal.decreases-loop-rest
decreases-loop-rest l = length l.rest
