use Rattle.std.proofs.Common.{◌≡◌, ◌++◌, take, flat_map}
use Rattle.std.specs.List.{AllByRecursion}
use Rattle.ew_model.specs.Sound.{IsSound}
use Rattle.peer_definitions.specs.Spelling.{event_bytes}
use Rattle.peer_frames.proofs.writing.put_events.Given as goal

abbrev pub invariant-loop-event : goal.invariant-loop-event
invariant-loop-event l = record {
  bytes : l.out.items ≡ l.initial.out.items ++ flat_map event_bytes (take l.event-index l.events);
  sound : AllByRecursion IsSound (take l.event-index l.events);
}
