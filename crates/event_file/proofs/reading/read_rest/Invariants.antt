use Rattle.std.proofs.Common.{◌≡◌}
use Rattle.event_file.specs.Rest.{in_front}
use Rattle.event_file.proofs.reading.read_rest.Given as goal

abbrev pub invariant-loop-events : goal.invariant-loop-events
invariant-loop-events l = l.initial.reader.found ≡ in_front l.events.items l.reader.found

abbrev pub decreases-loop-events : goal.decreases-loop-events
decreases-loop-events l = l.reader.records
