use Rattle.std.proofs.Common.{take}
use Rattle.std.specs.BTreeMap.{get}
use Rattle.ew_model.specs.Ids.{id_cmp, id_eq}
use Rattle.ew_model.specs.Ancestors.{ids_of}
use Rattle.event_file.specs.Places.{HasPlaces}
use Rattle.event_file.specs.RunWriting.{ArePut}
use Rattle.event_file.proofs.writing.put_runs.Given as goal

abbrev pub invariant-loop-i : goal.invariant-loop-i
invariant-loop-i l = record {
  so_far : ArePut l.events l.i l.writer;
  places : HasPlaces id_eq (get id_cmp l.positions) (ids_of (take l.i l.events));
}
