use Rattle.std.proofs.Common.{◌≡◌, ◌-◌, take, drop}
use Rattle.net_core.proofs.frames.piece.Given as goal

-- so many events from the position on
abbrev pub invariant-loop-position : goal.invariant-loop-position
invariant-loop-position l = l.events.items ≡ take (l.position - l.from) (drop l.from l.graph)
