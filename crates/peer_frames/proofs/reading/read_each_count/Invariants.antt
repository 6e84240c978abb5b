use Rattle.std.proofs.Common.{◌≡◌, [], true, ◌-◌}
use Rattle.peer_definitions.specs.Spelling.{names_ascend}
use Rattle.peer_frames.specs.Reading.{read_counts}
use Rattle.peer_frames.proofs.Ascending.{names_of}
use Rattle.peer_frames.proofs.reading.read_each_count.Given as goal

abbrev pub invariant-loop : goal.invariant-loop
invariant-loop l = record {
  so_far : read_counts l.counts.items (l.count - l.counter) l.input.left.now ≡ read_counts [] l.count l.initial.input.left.now;
  ascend : names_ascend (names_of l.counts.items) ≡ true;
}
