use Rattle.std.proofs.Common.{◌≤◌, length, ap, arith}
use Rattle.ew_model.specs.declared.limits.TheConstants.{MOST_PARENTS}
use Rattle.ew_model.specs.declared.event.Event.{Event}
use Rattle.peer_frames.proofs.Written.{all_next}
use Rattle.journal_trials.proofs.appending.have_few_parents.Goals as goal

pub loop-event-preserved : goal.loop-event-preserved
loop-event-preserved c =
    all_next (λ (e : Event). length e.parents ≤ MOST_PARENTS) c.args.events.now c.loop-event.event-index c.event-item.result c.loop-event-test.true c.event-item.is c.loop-event.invariant (omega (arith, ap length c.as_slice.ensures))
