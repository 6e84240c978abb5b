use Rattle.generator.proofs.Touching.{HasGone}
use Rattle.generator.proofs.making.make.Given as goal

abbrev pub invariant-loop-t : goal.invariant-loop-t
invariant-loop-t g l = HasGone l.fn.limits l.fn.seed l.t l.draws.state l.peers.replicas.items l.fn.steps l.steps
