use Rattle.std.proofs.Common.{◌≡◌, ◌++◌, take, flat_map}
use Rattle.std.specs.BTreeMap.{get}
use Rattle.ew_model.specs.Ids.{id_cmp, id_eq}
use Rattle.ew_model.specs.Ancestors.{ids_of}
use Rattle.file_words.specs.File.{record_bytes}
use Rattle.event_file.specs.Places.{HasPlaces}
use Rattle.event_file.proofs.writing.put_records.Given as goal

abbrev pub invariant-loop-i : goal.invariant-loop-i
invariant-loop-i l = record {
  so_far : l.out.items ≡ l.initial.out.items ++ flat_map (record_bytes l.events) (take l.i l.events);
  places : HasPlaces id_eq (get id_cmp l.positions) (ids_of (take l.i l.events));
}
