use Rattle.std.proofs.Common.{◌≡◌, ◌++◌, codes, take}
use Rattle.std.specs.List.{flat_map}
use Rattle.ew_model.specs.Scripts.{id_text}
use Rattle.script_reader.proofs.print.print_version.Given as goal

-- the first id is printed, and so are the others up to the index, each behind a comma
abbrev pub invariant-loop-id : goal.invariant-loop-id
invariant-loop-id l = l.out.items ≡ l.initial.out.items ++ flat_map (λ id. codes "," ++ id_text id) (take l.id-index l.others)
