use Rattle.ew_model.specs.Sound.{IsSoundId}
use Rattle.peer_frames.proofs.Written.{all_next}
use Rattle.event_journal.proofs.sound.note_ids.Goals as goal

pub loop-id-preserved : goal.loop-id-preserved
loop-id-preserved c = all_next IsSoundId c.args.ids.now c.loop-id.id-index c.id-item.result c.loop-id-test.true c.id-item.is c.loop-id.invariant c.note_id.ensures
