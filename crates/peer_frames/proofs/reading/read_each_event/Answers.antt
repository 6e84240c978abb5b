use Rattle.std.proofs.Common.{[]}
use Rattle.std.proofs.lemmas.Result.{err_from_is_err_and}
use Rattle.peer_frames.specs.Reading.{read_events}
use Rattle.peer_frames.proofs.Loops.{goes_on, ends, is_done, events_step, events_last, next_event}
use Rattle.peer_frames.proofs.reading.read_each_event.Goals as goal

pub returns-in_err-event : goal.returns-in_err-event
returns-in_err-event c =
    let p = err_from_is_err_and c.from_residual.result c.from_residual.ensures.1 in
    rw (p.1, p.2) (ends read_events next_event events_step events_last c.in_err-event.field-0.0 c.loop.events.items c.args.count c.loop.counter c.loop.input.left.now (read_events [] c.args.count c.args.input.now.left.now) c.loop-test.true c.in_err-event.ensures c.loop.invariant)

pub loop-preserved : goal.loop-preserved
loop-preserved c =
    rw c.in_ok-push.ensures.items (goes_on read_events next_event events_step events_last c.loop.events.items c.args.count c.loop.counter c.loop.input.left.now c.read_event.new.input.left.now c.in_ok-event.event (read_events [] c.args.count c.args.input.now.left.now) c.loop-test.true c.in_ok-event.ensures c.loop.invariant)

pub returns : goal.returns
returns c = is_done read_events next_event events_step events_last c.loop.events.items c.args.count c.loop.counter c.loop.input.left.now (read_events [] c.args.count c.args.input.now.left.now) c.loop-test.false c.loop.invariant
