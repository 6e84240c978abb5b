use Rattle.std.proofs.Common.{get_or, arith}
use Rattle.std.specs.BTreeMap.{get}
use Rattle.std.proofs.lemmas.List.{get_or_read}
use Rattle.ew_model.specs.Ids.{id_cmp}
use Rattle.event_file.proofs.SeenCounts.{by_count, first_below}
use Rattle.event_file.proofs.seen.SeenIds.has_one_of.Goals as goal

pub returns-then-first-index : goal.returns-then-first-index
returns-then-first-index c =
    let counts = c.args.self.now.counts.items in
    let is = get_or_read counts c.args.place c.index.result.now c.requires.place c.index.ensures 0 in
    first_below (get_or counts c.args.place 0) (get id_cmp c.args.self.now.further) c.args.first.now c.args.more (omega (arith, is, c.if-first-index.true))

pub returns : goal.returns
returns c =
    let counts = c.args.self.now.counts.items in
    let is = get_or_read counts c.args.place c.index.result.now c.requires.place c.index.ensures 0 in
    by_count c.has_further.result (get_or counts c.args.place 0) (get id_cmp c.args.self.now.further) c.args.first.now c.args.more (omega (arith, is, c.if-first-index.false)) c.has_further.ensures
