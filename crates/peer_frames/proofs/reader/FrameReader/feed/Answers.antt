use Rattle.peer_frames.proofs.Answering.{stays_bad}
use Rattle.peer_frames.proofs.reader.FrameReader.feed.Goals as goal

pub invariant_of-self : goal.invariant_of-self
invariant_of-self c = λ bad. stays_bad c.self.inside.limits c.self.inside.buffer.items c.args.piece.now c.extend_from_slice.new.self.items c.extend_from_slice.result c.extend_from_slice.ensures.ok c.extend_from_slice.ensures.err (c.self.invariant bad)
