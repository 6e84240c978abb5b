use Rattle.std.proofs.Common.{◌-◌, arith}
use Rattle.walk_trials.proofs.Held.{held_at}
use Rattle.walk_trials.proofs.guarded.is_held.Goals as goal

pub returns-then-label-gt0-clause-held : goal.returns-then-label-gt0-clause-held
returns-then-label-gt0-clause-held g c =
    held_at c.args.tree.now.pairs (c.args.label - 1) c.args.label c.has_room.result (omega (arith, c.if-label-gt0.true)) c.ranges.label.fits c.has_room.ensures.room.1
