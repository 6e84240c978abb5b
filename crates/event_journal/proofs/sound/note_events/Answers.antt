use Rattle.ew_model.specs.Sound.{IsSound}
use Rattle.peer_frames.proofs.Written.{all_next}
use Rattle.event_journal.proofs.sound.note_events.Goals as goal

pub loop-event-preserved : goal.loop-event-preserved
loop-event-preserved c = all_next IsSound c.args.events.now c.loop-event.event-index c.event-item.result c.loop-event-test.true c.event-item.is c.loop-event.invariant c.note_event.ensures
