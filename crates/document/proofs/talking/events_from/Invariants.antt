use Rattle.std.proofs.Common.{◌≡◌, drop, take}
use Rattle.document.proofs.talking.events_from.Given as goal

abbrev pub invariant-loop-position : goal.invariant-loop-position
invariant-loop-position l = l.events.items ≡ drop l.fn.from (take l.position l.graph)
