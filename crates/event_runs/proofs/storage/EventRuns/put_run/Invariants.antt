use Rattle.std.proofs.Common.{◌≡◌, ◌++◌, ◌-◌, length, take}
use Rattle.event_runs.specs.RunOps.{ops_of, chain_on}
use Rattle.event_runs.proofs.storage.EventRuns.put_run.Given as goal

-- so many of the events stand behind those that were there
abbrev pub invariant-loop-done : goal.invariant-loop-done
invariant-loop-done l = l.self ≡ l.fn.self ++ chain_on (length l.fn.self - 1) (take l.done (ops_of l.fn.ops))
