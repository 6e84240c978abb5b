use Rattle.std.proofs.Common.{◌≡◌, ◌≤◌, ◌+◌, ◌-◌, ◌*◌, List, ◌++◌, length, drop, Ok}
use Rattle.std.specs.List.{AllByRecursion}
use Rattle.ew_model.specs.declared.event.Event.{Event}
use Rattle.event_journal.specs.Disk.{TellsAlike}
use Rattle.peer_definitions.specs.Pieces.{pieces_from}
use Rattle.journal_plans.specs.Adding.{Adds, IsReady}
use Rattle.journal_plans.proofs.keep.append_all.Given as goal

abbrev pub invariant-loop : goal.invariant-loop
invariant-loop g l =
    (done : List (List Event))
    × (done ++ pieces_from l.room (l.end - l.counter) l.rest ≡ pieces_from l.room l.end l.events)
    × (l.rest ≡ drop (l.counter * l.room) l.events)
    × IsReady l.journal (g.D.Disk.seen l.disk).bytes (g.D.Disk.may_leave l.disk)
    × (l.journal.limits ≡ l.initial.journal.limits)
    × (l.journal.count + length l.rest ≡ l.initial.journal.count + length l.events)
    × AllByRecursion (λ (e : Event). length e.parents ≤ 16) l.rest
    × TellsAlike (g.D.Disk.seen l.initial.disk).bytes (g.D.Disk.seen l.disk).bytes
    × ((g.D.Disk.seen l.disk).faults ≡ (g.D.Disk.seen l.initial.disk).faults)
    × Adds {T = Unit {0}} g.D.Disk.may_leave g.D.Disk.moment g.D.Disk.left_since l.initial.journal l.journal l.initial.disk l.disk (g.D.Disk.seen l.initial.disk).bytes (g.D.Disk.seen l.disk).bytes done (Ok tt)
