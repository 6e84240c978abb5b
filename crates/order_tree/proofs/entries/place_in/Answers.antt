use Rattle.std.proofs.Common.{◌<◌}
use Rattle.order_tree.proofs.EntryLaws.{entry_place}
use Rattle.order_tree.proofs.PartLists.{entries_are}
use Rattle.order_tree.specs.Counts.{count_of}
use Rattle.order_tree.specs.Pairs.{total}
use Rattle.order_tree.specs.Parts.{one_pair}
use Rattle.order_tree.proofs.entries.place_in.Goals as goal

pub part_at-k-requires : goal.part_at-k-requires
part_at-k-requires g c = rw (entries_are c.args.entries.now) c.requires.within

pub returns : goal.returns
returns g c =
    let inside : c.part_at-k.result.1 < total (count_of g.R.Run c.args.count) (one_pair c.index-entries-k.result) = rw c.index-entries-k.is (c.part_at-k.ensures.inside c.index-entries-k.result) in
    rw (← c.index-entries-k.is) (entry_place c.args.entries.now (count_of g.R.Run c.args.count) c.args.i c.part_at-k.result.0 c.part_at-k.result.1 c.index-entries-k.result c.part_at-k.ensures.within c.index-entries-k.is c.requires.rising c.part_at-k.ensures.before inside)
