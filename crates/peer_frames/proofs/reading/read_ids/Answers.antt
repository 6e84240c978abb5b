use Rattle.std.proofs.Common.{[]}
use Rattle.std.proofs.lemmas.Result.{err_from_is_err_and}
use Rattle.peer_frames.specs.Reading.{read_ids}
use Rattle.peer_frames.proofs.Loops.{goes_on, ends, is_done, ids_step, ids_last, next_id}
use Rattle.peer_frames.proofs.reading.read_ids.Goals as goal

pub returns-in_err-id : goal.returns-in_err-id
returns-in_err-id c =
    let p = err_from_is_err_and c.from_residual-in_err-id.result c.from_residual-in_err-id.ensures.1 in
    rw (p.1, p.2) (ends read_ids next_id ids_step ids_last c.in_err-id.field-0.0 c.loop.ids.items c.args.count c.loop.counter c.loop.input.left.now (read_ids [] c.args.count c.args.input.now.left.now) c.loop-test.true c.in_err-id.ensures c.loop.invariant)

pub loop-preserved : goal.loop-preserved
loop-preserved c =
    rw c.in_ok-push.ensures.items (goes_on read_ids next_id ids_step ids_last c.loop.ids.items c.args.count c.loop.counter c.loop.input.left.now c.id.new.self.left.now c.in_ok-id.id (read_ids [] c.args.count c.args.input.now.left.now) c.loop-test.true c.in_ok-id.ensures c.loop.invariant)

pub returns : goal.returns
returns c = is_done read_ids next_id ids_step ids_last c.loop.ids.items c.args.count c.loop.counter c.loop.input.left.now (read_ids [] c.args.count c.args.input.now.left.now) c.loop-test.false c.loop.invariant
