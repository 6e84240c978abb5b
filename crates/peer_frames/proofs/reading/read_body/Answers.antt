use Rattle.std.proofs.Common.{arith}
use Rattle.peer_frames.proofs.Answering.{is_read}
use Rattle.peer_frames.proofs.reading.read_body.Goals as goal

pub returns : goal.returns
returns c = is_read c.args.kind c.args.body.now c.read_whole.result (λ i. omega (arith, c.type_inv.body i)) c.requires c.read_whole.ensures
