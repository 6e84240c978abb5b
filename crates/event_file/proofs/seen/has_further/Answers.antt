use Rattle.std.proofs.Common.{◌+◌, refl}
use Rattle.ew_model.specs.declared.id.Id.{Id}
use Rattle.event_file.proofs.SeenCounts.{last_tells, none_tells}
use Rattle.event_file.proofs.seen.has_further.Goals as goal

pub returns-in-Some : goal.returns-in-Some
returns-in-Some c =
    let first = c.args.first.now in
    let last : Id = record { agent = first.agent; seq = first.seq + c.args.more } in
    last_tells c.args.ranges.now first last c.in-Some.begin.now c.args.more c.in-Some.more.now c.range.result c.next_back.new.self c.reaches.result refl refl (c.range.ensures.in_range tt) c.in-Some.ensures.steps c.requires.parted c.reaches.ensures

pub returns-in-None : goal.returns-in-None
returns-in-None c =
    let first = c.args.first.now in
    let last : Id = record { agent = first.agent; seq = first.seq + c.args.more } in
    none_tells c.args.ranges.now first last c.args.more c.range.result refl refl (c.range.ensures.in_range tt) c.in-None.ensures.steps.0
