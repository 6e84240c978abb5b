use Rattle.std.proofs.Common.{arith}
use Rattle.generator.proofs.Owned.{read}
use Rattle.generator.proofs.peers.Peers.first.Goals as goal

pub returns : goal.returns
returns c = read c.args.self.now.replicas.items 0 c.index.result.now (omega arith) c.requires.three c.index.ensures
