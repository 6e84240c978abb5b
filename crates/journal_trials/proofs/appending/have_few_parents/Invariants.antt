use Rattle.std.proofs.Common.{◌≤◌, length, take}
use Rattle.std.specs.List.{AllByRecursion}
use Rattle.ew_model.specs.declared.limits.TheConstants.{MOST_PARENTS}
use Rattle.ew_model.specs.declared.event.Event.{Event}
use Rattle.journal_trials.proofs.appending.have_few_parents.Given as goal

abbrev pub invariant-loop-event : goal.invariant-loop-event
invariant-loop-event l = AllByRecursion (λ (e : Event). length e.parents ≤ MOST_PARENTS) (take l.event-index l.events)
