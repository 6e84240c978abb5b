use Rattle.std.proofs.Common.{◌≡◌, ◌++◌, take, flat_map}
use Rattle.ew_model.specs.Bytes.{four_bytes}
use Rattle.event_file.proofs.writing.put_parents.Given as goal

abbrev pub invariant-loop-parent : goal.invariant-loop-parent
invariant-loop-parent l = l.out.items ≡ l.initial.out.items ++ flat_map four_bytes (take l.parent-index l.parents)
