use Rattle.std.proofs.Common.{◌≡◌, ◌++◌, take, flat_map}
use Rattle.ew_model.specs.Bytes.{name_bytes}
use Rattle.event_file.proofs.writing.put_agents.Given as goal

abbrev pub invariant-loop-name : goal.invariant-loop-name
invariant-loop-name l = l.out.items ≡ l.initial.out.items ++ flat_map name_bytes (take l.name-index l.agents)
