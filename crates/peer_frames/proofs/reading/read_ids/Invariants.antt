use Rattle.std.proofs.Common.{◌≡◌, [], ◌-◌}
use Rattle.peer_frames.specs.Reading.{read_ids}
use Rattle.peer_frames.proofs.reading.read_ids.Given as goal

abbrev pub invariant-loop : goal.invariant-loop
invariant-loop l = read_ids l.ids.items (l.count - l.counter) l.input.left.now ≡ read_ids [] l.count l.initial.input.left.now
