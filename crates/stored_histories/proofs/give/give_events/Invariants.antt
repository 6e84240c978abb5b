use Rattle.std.proofs.Common.{◌≡◌, List}
use Rattle.ew_model.specs.declared.event.Event.{Event}
use Rattle.stored_histories.specs.Giving.{IsGivenFront}
use Rattle.stored_histories.proofs.give.give_events.Given as goal

abbrev pub invariant-loop-characters : goal.invariant-loop-characters
invariant-loop-characters l = record {
  limits : l.given.limits ≡ l.fn.limits;
  front : (before : List Event) × IsGivenFront before l.initial.reader.found l.given l.reader l.fn.limits.events;
}

abbrev pub decreases-loop-characters : goal.decreases-loop-characters
decreases-loop-characters l = l.reader.records
