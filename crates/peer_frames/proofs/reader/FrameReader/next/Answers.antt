use Rattle.std.proofs.Common.{sym, subst}
use Rattle.peer_frames.specs.Calls.{Kept}
use Rattle.peer_definitions.specs.Cutting.{Finds}
use Rattle.peer_definitions.specs.Cutting.Front.{Whole}
use Rattle.peer_frames.proofs.Answering.{has_body, finds_whole, finds_bad}
use Rattle.peer_frames.proofs.Cuts.{fronts_are_one}
use Rattle.peer_frames.proofs.reader.FrameReader.next.Goals as goal

abbrev whole_found : goal.returns-in-Ok-clause-found
whole_found c =
    let bytes = c.self.inside.buffer.items in
    let limits = c.self.inside.limits in
    let place = c.in-Some.body in
    let head = rw c.in-Some.is at c.in_ok-body.ensures.head in
    let h = has_body limits bytes c.as_slice.result.now c.as_slice-2.result.now place.kind place.len c.as_slice.ensures c.as_slice-2.ensures head in
    subst (λ (k : Kept). Finds k.limits k.bytes (Whole c.in-Ok.frame c.advance.new.self.items)) c.self.view_is
    (subst (λ rest. Finds limits bytes (Whole c.in-Ok.frame rest)) (sym c.advance.ensures.items) (finds_whole limits bytes place.kind place.len _ c.in-Ok.frame h c.in-Ok.ensures))

pub invariant_of-self-in-Err-BadBody : goal.invariant_of-self-in-Err-BadBody
invariant_of-self-in-Err-BadBody c = λ _.
    let bytes = c.self.inside.buffer.items in
    let limits = c.self.inside.limits in
    let place = c.in-Some.body in
    let head = rw c.in-Some.is at c.in_ok-body.ensures.head in
    let h = has_body limits bytes c.as_slice.result.now c.as_slice-2.result.now place.kind place.len c.as_slice.ensures c.as_slice-2.ensures head in
    finds_bad limits bytes place.kind place.len _ h (rw c.in-Err-BadBody.field-0-is at c.in-Err-BadBody.ensures)

pub returns-in-Ok-clause-found : goal.returns-in-Ok-clause-found
returns-in-Ok-clause-found c = whole_found c

pub returns-in-Ok-clause-only : goal.returns-in-Ok-clause-only
returns-in-Ok-clause-only c = λ front found. fronts_are_one c.args.self.now.limits c.args.self.now.bytes (Whole c.in-Ok.frame c.advance.new.self.items) front (whole_found c) found
