use Rattle.std.proofs.Common.{◌+◌, length, refl, ap, arith}
use Rattle.std.proofs.lemmas.List.{length-append}
use Rattle.std.proofs.lemmas.Option.{MatchOption-at_some}
use Rattle.event_journal.proofs.ReadBatches.{too_many, read_both, few_in, sliced_first}
use Rattle.event_journal.proofs.reading.read_batches.Goals as goal

pub overflow_cast-result : goal.overflow_cast-result
overflow_cast-result c =
    let first = sliced_first c.args.limits.now.body c.body.result c.args.bytes.now c.loop-gate.gate c.in-Some.batch.events.items c.in-Some.batch.len c.body.ensures.value (MatchOption-at_some _ _ c.in-Some.batch c.in-Some.is c.in_ok-batch.ensures) in
    let few = few_in c.args.limits.now c.args.bytes.now c.loop-gate.events.items c.loop-gate.gate c.loop-gate.invariant.read c.in-Some.batch.events.items c.in-Some.batch.len first in
    omega (arith, few, c.len.ensures, c.len-in-loop-gate.ensures, c.events.ensures.range, c.loop-gate.invariant.read.within)

pub returns-then-count-events : goal.returns-then-count-events
returns-then-count-events c =
    let first = sliced_first c.args.limits.now.body c.body.result c.args.bytes.now c.loop-gate.gate c.in-Some.batch.events.items c.in-Some.batch.len c.body.ensures.value (MatchOption-at_some _ _ c.in-Some.batch c.in-Some.is c.in_ok-batch.ensures) in
    record { read = too_many c.args.limits.now c.args.bytes.now c.loop-gate.events.items c.loop-gate.gate c.loop-gate.invariant.read c.in-Some.batch.events.items c.in-Some.batch.len first (c.len.result + c.len-in-loop-gate.result) (omega (arith, c.len.ensures, c.len-in-loop-gate.ensures)) (omega (arith, c.if-count-events.true, c.events.ensures.value)); few = tt }

pub loop-gate-preserved : goal.loop-gate-preserved
loop-gate-preserved c =
    let first = sliced_first c.args.limits.now.body c.body.result c.args.bytes.now c.loop-gate.gate c.in-Some.batch.events.items c.in-Some.batch.len c.body.ensures.value (MatchOption-at_some _ _ c.in-Some.batch c.in-Some.is c.in_ok-batch.ensures) in
    record {
      read = read_both c.args.limits.now c.args.bytes.now c.loop-gate.events.items c.loop-gate.gate c.loop-gate.invariant.read c.in-Some.batch.events.items c.in-Some.batch.len first c.push_all.new.events.items (c.loop-gate.gate + c.in-Some.batch.len) c.in_ok-push_all.ensures refl (omega (arith, c.if-count-events.false, c.len.ensures, c.len-in-loop-gate.ensures, c.events.ensures.value));
      few = omega (arith, c.if-count-events.false, c.len.ensures, c.len-in-loop-gate.ensures, c.events.ensures.value, c.events.ensures.range, ap length c.in_ok-push_all.ensures, length-append c.loop-gate.events.items c.in-Some.batch.events.items);
    }
