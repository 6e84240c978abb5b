use Rattle.std.proofs.Common.{◌≡◌, ◌++◌, sym, subst}
use Rattle.std.specs.Prelude.{OnOk}
use Rattle.ew_model.specs.Bytes.{four_bytes}
use Rattle.peer_definitions.specs.declared.frame.Frame.{Frame}
use Rattle.peer_definitions.specs.Spelling.{HasSpelling, body_of}
use Rattle.peer_frames.proofs.Bodies.{counts_few, events_few}
use Rattle.peer_frames.proofs.Answering.{four_written}
use Rattle.peer_frames.proofs.writing.put_body.Goals as goal

pub put_counts-requires : goal.put_counts-requires
put_counts-requires c = rw c.as_slice.ensures (counts_few c.in-Have.counts (subst HasSpelling c.in-Have.is c.requires).body)

pub put_events-requires-clause-few : goal.put_events-requires-clause-few
put_events-requires-clause-few c = rw c.as_slice-in-Events.ensures (events_few c.in-Events.events (subst HasSpelling c.in-Events.is c.requires).body)

pub put_events-requires-clause-parents : goal.put_events-requires-clause-parents
put_events-requires-clause-parents c = rw c.as_slice-in-Events.ensures (subst HasSpelling c.in-Events.is c.requires).content

pub returns-in_ok-put_number-in-Took-3-clause-bytes : goal.returns-in_ok-put_number-in-Took-3-clause-bytes
returns-in_ok-put_number-in-Took-3-clause-bytes c =
    let out = c.put_number-in-Took-3.new.out.items in
    let before = c.args.out.now.items in
    subst (λ (f : Frame). OnOk c.put_number-in-Took-3.result (out ≡ before ++ body_of f)) (sym c.in-Took.is)
    (four_written c.put_number-in-Took-3.result before (four_bytes c.in-Took.accepted) (four_bytes c.in-Took.waiting) (four_bytes c.in-Took.repeats) (four_bytes c.in-Took.refused) c.put_number.new.out.items c.put_number-in-Took.new.out.items c.put_number-in-Took-2.new.out.items out
    c.in_ok-put_number-in-Took.ensures.bytes c.in_ok-put_number-in-Took-2.ensures.bytes c.in_ok-put_number-in-Took-3.ensures.bytes c.put_number-in-Took-3.ensures.bytes)
