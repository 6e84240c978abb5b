use Rattle.std.proofs.Common.{◌≡◌, ◌++◌, take, flat_map}
use Rattle.ew_model.specs.Bytes.{four_bytes}
use Rattle.event_file.proofs.steps.put_insertions.Given as goal

abbrev pub invariant-loop-ch : goal.invariant-loop-ch
invariant-loop-ch l = l.out.items ≡ l.initial.out.items ++ flat_map four_bytes (take l.ch-index l.text)
