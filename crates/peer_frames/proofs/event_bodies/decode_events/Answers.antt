use Rattle.std.proofs.Common.{subst, arith}
use Rattle.peer_frames.specs.Reading.{Stops, all_of, all_events}
use Rattle.peer_frames.proofs.SpelledEvents.{body_some, body_none}
use Rattle.peer_frames.proofs.event_bodies.decode_events.Goals as goal

pub returns-in-Ok : goal.returns-in-Ok
returns-in-Ok c = body_some c.args.bytes.now c.in-Ok.events.items (λ i. omega (arith, c.type_inv.bytes i)) c.in-Ok.ensures

pub returns-in-Err-BadBody : goal.returns-in-Err-BadBody
returns-in-Err-BadBody c =
    body_none c.args.bytes.now (subst (λ f. Stops f (all_of (all_events c.args.bytes.now))) c.in-Err-BadBody.field-0-is c.in-Err-BadBody.ensures)
