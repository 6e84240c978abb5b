use Rattle.std.proofs.Common.{◌≡◌, take}
use Rattle.ew_model.specs.Writable.{agents_of}
use Rattle.event_file.proofs.agents.Agents.of.Given as goal

abbrev pub invariant-loop-event : goal.invariant-loop-event
invariant-loop-event l = l.agents ≡ agents_of (take l.event-index l.events)
