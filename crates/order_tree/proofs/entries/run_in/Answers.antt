use Rattle.order_tree.proofs.EntryLaws.{as_parts, held_some, entry_at}
use Rattle.order_tree.proofs.PartLists.{entries_some}
use Rattle.order_tree.proofs.entries.run_in.Goals as goal

pub place_of-k-requires-clause-some : goal.place_of-k-requires-clause-some
place_of-k-requires-clause-some g c = entries_some c.args.entries.now

pub place_of-k-requires-clause-rising : goal.place_of-k-requires-clause-rising
place_of-k-requires-clause-rising g c = as_parts c.args.entries.now c.requires.rising

pub place_of-k-requires-clause-one : goal.place_of-k-requires-clause-one
place_of-k-requires-clause-one g c = held_some c.args.entries.now (c.args.label, c.requires.held.0) c.requires.held.1

pub returns : goal.returns
returns g c = rw (← c.index-entries-k.is) (entry_at c.args.entries.now c.place_of-k.result c.args.label c.index-entries-k.result c.requires.held.0 c.place_of-k.ensures.within c.index-entries-k.is c.requires.rising c.place_of-k.ensures.before c.place_of-k.ensures.behind c.requires.held.1)
