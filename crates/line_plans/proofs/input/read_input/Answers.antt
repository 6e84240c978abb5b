use Rattle.std.proofs.Common.{rules, ◌+◌, ◌≤◌, length, take}
use Rattle.opened_files.proofs.Reading.{takes_kept, takes_more}
use Rattle.line_plans.proofs.input.read_input.Goals as goal

pub returns-in-Err-clause-few : goal.returns-in-Err-clause-few
returns-in-Err-clause-few g c =
    let few : length c.pieces.bytes.items ≤ c.args.most + 1 = search (rules) in
    takes_kept (c.args.most + 1) (g.S.Source.seen c.args.source.now).left (g.S.Source.seen c.pieces.source).left (g.S.Source.seen c.read.new.self).left c.pieces.bytes.items c.pieces.invariant.taken c.in-Err.ensures.bytes few

pub returns-then-count-eq0-clause-few : goal.returns-then-count-eq0-clause-few
returns-then-count-eq0-clause-few g c =
    let piece = take c.in-Ok.count c.read.new.buf in
    let few : length c.pieces.bytes.items + length (take c.in-Ok.count c.read.new.buf) ≤ c.args.most + 1 = search (rules) in
    takes_more (c.args.most + 1) (g.S.Source.seen c.args.source.now).left (g.S.Source.seen c.pieces.source).left (g.S.Source.seen c.read.new.self).left c.pieces.bytes.items piece c.pieces.invariant.taken c.in-Ok.ensures.bytes.1 few

pub returns-in_err-extend_from_slice-clause-few : goal.returns-in_err-extend_from_slice-clause-few
returns-in_err-extend_from_slice-clause-few g c =
    let piece = take c.in-Ok.count c.read.new.buf in
    let few : length c.pieces.bytes.items + length (take c.in-Ok.count c.read.new.buf) ≤ c.args.most + 1 = search (rules) in
    takes_more (c.args.most + 1) (g.S.Source.seen c.args.source.now).left (g.S.Source.seen c.pieces.source).left (g.S.Source.seen c.read.new.self).left c.pieces.bytes.items piece c.pieces.invariant.taken c.in-Ok.ensures.bytes.1 few
