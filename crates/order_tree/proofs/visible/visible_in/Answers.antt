use Rattle.std.proofs.Common.{◌<◌, ◌∙◌, sym}
use Rattle.order_tree.specs.Pairs.{total}
use Rattle.order_tree.specs.Parts.{one_pair}
use Rattle.order_tree.proofs.EntryLaws.{entry_place}
use Rattle.order_tree.proofs.PartLists.{entries_are}
use Rattle.order_tree.proofs.VisibleLaws.{entry_lower}
use Rattle.order_tree.proofs.visible.visible_in.Goals as goal

pub visible_part-k-requires-clause-within : goal.visible_part-k-requires-clause-within
visible_part-k-requires-clause-within g c = rw (entries_are c.args.entries.now) c.requires.within

pub visible_part-k-requires-clause-small : goal.visible_part-k-requires-clause-small
visible_part-k-requires-clause-small g c = rw (entries_are c.args.entries.now) c.requires.small

pub returns-clause-place : goal.returns-clause-place
returns-clause-place g c =
    let inside : c.visible_part-k.result.1 < total g.R.Run.prepared (one_pair c.index-entries-k.result) = rw c.index-entries-k.is (c.visible_part-k.ensures.inside c.index-entries-k.result) in
    entry_place c.args.entries.now g.R.Run.prepared c.args.i c.visible_part-k.result.0 c.visible_part-k.result.1 c.index-entries-k.result c.visible_part-k.ensures.within c.index-entries-k.is c.requires.rising c.visible_part-k.ensures.before inside

pub returns-clause-run : goal.returns-clause-run
returns-clause-run g c = (c.visible_part-k.result.0, c.visible_part-k.ensures.within, sym c.index-entries-k.is)

pub returns-clause-before : goal.returns-clause-before
returns-clause-before g c =
    c.visible_part-k.ensures.effect ∙ entry_lower c.args.entries.now g.R.Run.effect c.visible_part-k.result.0 c.index-entries-k.result c.visible_part-k.ensures.within c.index-entries-k.is c.requires.rising
