use Rattle.std.proofs.Common.{◌≡◌, ◌++◌, take, flat_map}
use Rattle.std.specs.List.{AllByRecursion}
use Rattle.ew_model.specs.Sound.{IsSoundId}
use Rattle.peer_definitions.specs.Spelling.{id_bytes}
use Rattle.peer_frames.proofs.writing.put_ids.Given as goal

abbrev pub invariant-loop-id : goal.invariant-loop-id
invariant-loop-id l = record {
  bytes : l.out.items ≡ l.initial.out.items ++ flat_map id_bytes (take l.id-index l.ids);
  sound : AllByRecursion IsSoundId (take l.id-index l.ids);
}
