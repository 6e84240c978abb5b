use Rattle.std.proofs.Common.{take}
use Rattle.ew_model.specs.Sound.{AreSound}
use Rattle.event_journal.proofs.sound.note_events.Given as goal

abbrev pub invariant-loop-event : goal.invariant-loop-event
invariant-loop-event l = AreSound (take l.event-index l.events)
