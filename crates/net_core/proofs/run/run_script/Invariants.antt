use Rattle.std.proofs.Common.{◌≤◌, length, take}
use Rattle.peer_definitions.specs.Machine.{empty_network}
use Rattle.net_core.proofs.Running.{HasRun}
use Rattle.net_core.proofs.run.run_script.Given as goal

-- the lines up to the index were run, and each made at most one packet
abbrev pub invariant-loop-line : goal.invariant-loop-line
invariant-loop-line g l = record {
  runs : HasRun (empty_network l.fn.limits) (take l.line-index l.script) l.out.items l.net;
  few : length l.net.packets ≤ l.line-index;
}
