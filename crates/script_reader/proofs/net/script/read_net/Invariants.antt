use Rattle.std.proofs.Common.{ℕ, ◌+◌, ◌≤◌, List, ◌++◌, length}
use Rattle.ew_model.specs.Scripts.{Numbered, LinesMean, IsFirstUnreadable, lines_of}
use Rattle.peer_definitions.specs.declared.net_step.NetStep.{NetStep}
use Rattle.peer_definitions.specs.NetScripts.{MeansStep, IsFirstBadNetLine, IsNetScript, numbered_steps}
use Rattle.script_reader.proofs.net.script.read_net.Given as goal

-- what the lines that are left mean completes the script; the first bad one of them is the first of all
abbrev pub invariant-loop-rest : goal.invariant-loop-rest
invariant-loop-rest l = record {
  script : (items : List (Numbered NetStep)) → LinesMean MeansStep (l.number + 1) (lines_of l.rest) items → IsNetScript l.b (numbered_steps l.steps.items ++ items);
  bad_line : (bad : ℕ) → IsFirstUnreadable MeansStep (l.number + 1) (lines_of l.rest) bad → IsFirstBadNetLine l.b bad;
  counted : l.number + length l.rest ≤ length l.b;
}

abbrev pub decreases-loop-rest : goal.decreases-loop-rest
decreases-loop-rest l = length l.rest
