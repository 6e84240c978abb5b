use Rattle.std.proofs.Common.{◌≡◌, [], ◌-◌}
use Rattle.peer_frames.specs.Reading.{read_events}
use Rattle.peer_frames.proofs.reading.read_each_event.Given as goal

abbrev pub invariant-loop : goal.invariant-loop
invariant-loop l = read_events l.events.items (l.count - l.counter) l.input.left.now ≡ read_events [] l.count l.initial.input.left.now
