use Rattle.std.proofs.Common.{◌≡◌, ◌++◌, length}
use Rattle.std.specs.Vec.Iter.{into_iter_items, into_iter_len}
use Rattle.event_journal.proofs.reading.push_all.Given as goal

abbrev pub invariant-loop-event : goal.invariant-loop-event
invariant-loop-event l = record {
  items : l.events.items ++ into_iter_items l.event-iterator ≡ l.initial.events.items ++ l.fn.batch.items;
  many : into_iter_len l.event-iterator ≡ length (into_iter_items l.event-iterator);
}
