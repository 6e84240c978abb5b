use Rattle.std.proofs.Common.{◌-◌, ◌≤◌, length}
use Rattle.ew_model.specs.declared.limits.TheConstants.{MOST_EVENTS}
use Rattle.event_journal.specs.Reading.{IsRead}
use Rattle.event_journal.proofs.reading.read_batches.Given as goal

abbrev pub invariant-loop-gate : goal.invariant-loop-gate
invariant-loop-gate l = record {
  read : IsRead l.limits l.bytes l.events.items l.gate;
  few : length l.events.items ≤ MOST_EVENTS;
}

abbrev pub decreases-loop-gate : goal.decreases-loop-gate
decreases-loop-gate l = length l.bytes - l.gate
