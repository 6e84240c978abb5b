use Rattle.std.proofs.Common.{◌∙◌}
use Rattle.peer_frames.proofs.Answering.{found_next}
use Rattle.document.proofs.Answered.{next_shorter, spoken_next, stops_next}
use Rattle.document.proofs.talking.answer_all.Goals as goal

pub returns-in-Err-answer_one-clause-answers : goal.returns-in-Err-answer_one-clause-answers
returns-in-Err-answer_one-clause-answers g c =
    let found = found_next c.frames.peer.limits c.frames.peer.bytes c.next.new.self.bytes c.in-Ok-Some.frame c.next.result c.in-Ok-Some.field-0 c.in-Ok-Some.is c.in-Ok-Some.field-0-is c.next.ensures.found in
    stops_next c.args.peer.now.limits c.frames.peer.limits c.args.replica.now c.frames.replica c.answer_one.new.replica c.args.peer.now.bytes c.frames.peer.bytes c.next.new.self.bytes c.frames.out.items c.answer_one.new.out.items
    c.in-Ok-Some.frame c.frames.invariant.spoken c.frames.invariant.limits found c.answer_one.result c.in-Err-answer_one.fault c.in-Err-answer_one.is c.answer_one.ensures

pub frames-smaller : goal.frames-smaller
frames-smaller g c =
    let found = found_next c.frames.peer.limits c.frames.peer.bytes c.next.new.self.bytes c.in-Ok-Some.frame c.next.result c.in-Ok-Some.field-0 c.in-Ok-Some.is c.in-Ok-Some.field-0-is c.next.ensures.found in
    next_shorter c.args.peer.now.limits c.frames.peer.limits c.args.replica.now c.frames.replica c.answer_one.new.replica c.args.peer.now.bytes c.frames.peer.bytes c.next.new.self.bytes c.frames.out.items c.answer_one.new.out.items
    c.in-Ok-Some.frame c.frames.invariant.spoken c.frames.invariant.limits found

pub frames-preserved : goal.frames-preserved
frames-preserved g c =
    let found = found_next c.frames.peer.limits c.frames.peer.bytes c.next.new.self.bytes c.in-Ok-Some.frame c.next.result c.in-Ok-Some.field-0 c.in-Ok-Some.is c.in-Ok-Some.field-0-is c.next.ensures.found in
    record {
      spoken = spoken_next c.args.peer.now.limits c.frames.peer.limits c.args.replica.now c.frames.replica c.answer_one.new.replica c.args.peer.now.bytes c.frames.peer.bytes c.next.new.self.bytes c.frames.out.items c.answer_one.new.out.items
          c.in-Ok-Some.frame c.frames.invariant.spoken c.frames.invariant.limits found c.answer_one.result c.in_default.is c.answer_one.ensures;
      limits = c.next.ensures.limits ∙ c.frames.invariant.limits;
    }
