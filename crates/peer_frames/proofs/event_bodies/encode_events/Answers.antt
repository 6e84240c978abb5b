use Rattle.peer_frames.proofs.Bodies.{events_few}
use Rattle.peer_frames.proofs.event_bodies.encode_events.Goals as goal

pub put_events-requires-clause-few : goal.put_events-requires-clause-few
put_events-requires-clause-few c = events_few c.args.events.now c.requires.bytes
