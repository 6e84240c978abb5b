use Rattle.std.proofs.Common.{◌+◌, arith, refl}
use Rattle.order_tree.proofs.EntryLaws.{as_parts, next_is}
use Rattle.order_tree.proofs.LeafEdits.{inserted_is}
use Rattle.order_tree.proofs.leaf.insert_entry.Goals as goal

pub free_before-most-requires-clause-rising : goal.free_before-most-requires-clause-rising
free_before-most-requires-clause-rising g c = rw c.as_slice-list.ensures.value (as_parts c.args.entries.now.items c.requires.rising)

pub choose-own-requires : goal.choose-own-requires
choose-own-requires g c =
    let list = c.as_slice-list.ensures.value in
    let below = rw list at c.entries_up_to-k.ensures.before in
    let above = rw list at c.entries_up_to-k.ensures.behind in
    let free = rw list at c.free_before-most.ensures in
    let next = next_is c.args.entries.now.items c.entries_up_to-k.result c.args.way.label (c.args.way.most + 1) below above in
    omega (arith, free, next, c.requires.label)

pub returns-clause-edited : goal.returns-clause-edited
returns-clause-edited g c =
    let list = c.as_slice-list.ensures.value in
    let below = rw list at c.entries_up_to-k.ensures.before in
    let above = rw list at c.entries_up_to-k.ensures.behind in
    let free = rw list at c.free_before-most.ensures in
    inserted_is g.R.Run c.args.entries.now.items _ c.entries_up_to-k.result c.args.way.label (c.args.way.most + 1) c.choose-own.result c.free_before-most.result c.args.run _ c.of-gained.result below above
    c.put-tail.ensures.items c.choose-own.ensures.above c.choose-own.ensures.within free refl c.of-gained.ensures.known c.of-gained.ensures.prepared c.of-gained.ensures.effect
