use Rattle.std.proofs.Common.{◌+◌, arith}
use Rattle.std.specs.BTreeMap.{get}
use Rattle.ew_model.specs.Ids.{id_cmp}
use Rattle.event_file.proofs.SeenCounts.{added_next, added_range, parted_more}
use Rattle.event_file.proofs.seen.SeenIds.insert.Goals as goal

pub returns-then-more-count-clause-added : goal.returns-then-more-count-clause-added
returns-then-more-count-clause-added c agents distinct at x =
    let n = c.index-count.result.now in
    added_next agents c.args.self.now.counts.items (get id_cmp c.args.self.now.further) c.args.place c.args.first c.args.more n (n + c.args.more + 1) distinct at c.requires.place c.index-count.ensures c.if-first-count.true (omega arith) x

pub returns-in_ok-insert-clause-added : goal.returns-in_ok-insert-clause-added
returns-in_ok-insert-clause-added c agents distinct at x =
    added_range agents c.args.self.now.counts.items (get id_cmp c.args.self.now.further) (get id_cmp c.insert.new.self) c.args.first c.args.more c.in_ok-insert.ensures.updates.0 c.requires.new x

pub returns-in_ok-insert-clause-parted : goal.returns-in_ok-insert-clause-parted
returns-in_ok-insert-clause-parted c =
    parted_more (get id_cmp c.args.self.now.further) (get id_cmp c.insert.new.self) c.args.first c.args.more c.in_ok-insert.ensures.updates.0 c.requires.new c.requires.parted
