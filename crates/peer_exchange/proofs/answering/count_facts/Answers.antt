use Rattle.peer_definitions.specs.Spelling.{IsSoundCount}
use Rattle.peer_frames.proofs.Written.{all_next}
use Rattle.peer_exchange.proofs.answering.count_facts.Goals as goal

pub loop-count-preserved : goal.loop-count-preserved
loop-count-preserved c = all_next IsSoundCount c.args.counts.now c.loop-count.count-index c.count-item.result c.loop-count-test.true c.count-item.is c.loop-count.invariant (record { agent = c.facts.ensures.0; count = c.facts.ensures.1 })
