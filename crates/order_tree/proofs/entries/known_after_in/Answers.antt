use Rattle.std.proofs.Common.{◌<◌}
use Rattle.order_tree.proofs.EntryLaws.{entry_known}
use Rattle.order_tree.proofs.PartLists.{entries_are}
use Rattle.order_tree.specs.Parts.{one_pair, last_known}
use Rattle.order_tree.proofs.entries.known_after_in.Goals as goal

pub part_known_after-k-requires : goal.part_known_after-k-requires
part_known_after-k-requires g c = rw (entries_are c.args.entries.now) c.requires.some

pub returns : goal.returns
returns g c =
    let inside : c.args.label < last_known g.R.Run.known (one_pair c.index-entries-k.result) = rw c.index-entries-k.is (c.part_known_after-k.ensures.inside c.index-entries-k.result) in
    rw (← c.index-entries-k.is) (entry_known c.args.entries.now g.R.Run.known c.part_known_after-k.result c.args.label c.index-entries-k.result c.part_known_after-k.ensures.within c.index-entries-k.is c.requires.rising c.part_known_after-k.ensures.before inside)
