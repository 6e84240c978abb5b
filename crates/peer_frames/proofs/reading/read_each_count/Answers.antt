use Rattle.std.proofs.Common.{[]}
use Rattle.std.proofs.lemmas.Result.{err_from_is_err_and}
use Rattle.peer_frames.specs.Reading.{one_count, read_counts}
use Rattle.peer_frames.proofs.Loops.{goes_on, ends, is_done, counts_step, counts_last}
use Rattle.peer_frames.proofs.Bodies.{count_ascends}
use Rattle.peer_frames.proofs.reading.read_each_count.Goals as goal

pub returns-in_err-next : goal.returns-in_err-next
returns-in_err-next c =
    let p = err_from_is_err_and c.from_residual.result c.from_residual.ensures.1 in
    rw (p.1, p.2) (ends read_counts one_count counts_step counts_last c.in_err-next.field-0.0 c.loop.counts.items c.args.count c.loop.counter c.loop.input.left.now (read_counts [] c.args.count c.args.input.now.left.now) c.loop-test.true (rw c.as_slice.ensures.value at c.in_err-next.ensures) c.loop.invariant.so_far)

pub loop-preserved : goal.loop-preserved
loop-preserved c =
    let one = rw c.as_slice.ensures.value at c.in_ok-next.ensures in
    rw c.in_ok-push.ensures.items record {
      so_far = goes_on read_counts one_count counts_step counts_last c.loop.counts.items c.args.count c.loop.counter c.loop.input.left.now c.read_count.new.input.left.now c.in_ok-next.next (read_counts [] c.args.count c.args.input.now.left.now) c.loop-test.true one c.loop.invariant.so_far;
      ascend = count_ascends c.loop.counts.items c.loop.input.left.now c.read_count.new.input.left.now c.in_ok-next.next one;
    }

pub returns : goal.returns
returns c = is_done read_counts one_count counts_step counts_last c.loop.counts.items c.args.count c.loop.counter c.loop.input.left.now (read_counts [] c.args.count c.args.input.now.left.now) c.loop-test.false c.loop.invariant.so_far
