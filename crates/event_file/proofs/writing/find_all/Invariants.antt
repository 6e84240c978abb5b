use Rattle.std.proofs.Common.{◌≡◌, map, take}
use Rattle.std.specs.Prelude.{unwrap_or}
use Rattle.std.specs.BTreeMap.{get}
use Rattle.ew_model.specs.Ids.{id_cmp}
use Rattle.event_file.proofs.writing.find_all.Given as goal

abbrev pub invariant-loop-id : goal.invariant-loop-id
invariant-loop-id l = l.found.items ≡ map (λ x. unwrap_or (get id_cmp l.positions x) 0) (take l.id-index l.ids)
