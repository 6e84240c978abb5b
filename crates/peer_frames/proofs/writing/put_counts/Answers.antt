use Rattle.std.proofs.Common.{arith}
use Rattle.std.proofs.lemmas.Grind.{common_steps}
use Rattle.peer_definitions.specs.Spelling.{IsSoundCount}
use Rattle.peer_frames.proofs.Written.{all_next}
use Rattle.peer_frames.proofs.writing.put_counts.Goals as goal

pub loop-count-preserved : goal.loop-count-preserved
loop-count-preserved c = record {
  bytes = grind (arith, common_steps);
  sound = all_next IsSoundCount c.args.counts.now c.loop-count.count-index c.count-item.result c.loop-count-test.true c.count-item.is c.loop-count.invariant.sound c.in_ok-put_count.ensures.sound;
}
