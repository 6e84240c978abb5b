use Rattle.std.proofs.Common.{◌≡◌, ◌-◌, take, drop}
use Rattle.journal_plans.proofs.keep.events_from.Given as goal

-- the events from the position on
abbrev pub invariant-loop-position : goal.invariant-loop-position
invariant-loop-position l = l.events.items ≡ take (l.position - l.from) (drop l.from l.replica.held)
