use Rattle.std.proofs.Common.{◌≡◌, ◌++◌, take, flat_map}
use Rattle.std.specs.List.{AllByRecursion}
use Rattle.peer_definitions.specs.Spelling.{IsSoundCount, count_bytes}
use Rattle.peer_frames.proofs.writing.put_counts.Given as goal

abbrev pub invariant-loop-count : goal.invariant-loop-count
invariant-loop-count l = record {
  bytes : l.out.items ≡ l.initial.out.items ++ flat_map count_bytes (take l.count-index l.counts);
  sound : AllByRecursion IsSoundCount (take l.count-index l.counts);
}
