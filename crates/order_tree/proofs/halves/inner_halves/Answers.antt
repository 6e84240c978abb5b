use Rattle.order_tree.proofs.KidLaws.{deep_inner}
use Rattle.order_tree.proofs.InnerEdits.{AllBelow-left, AllBelow-right}
use Rattle.order_tree.proofs.halves.inner_halves.Goals as goal

pub inner_summary-requires-clause-below : goal.inner_summary-requires-clause-below
inner_summary-requires-clause-below g c = AllBelow-left c.args.depth c.args.kids.now c.in-Some.tail.items (rw c.in-Some.is at c.requires.below)

pub inner-requires-clause-below : goal.inner-requires-clause-below
inner-requires-clause-below g c = AllBelow-right c.args.depth c.args.kids.now c.in-Some.tail.items (rw c.in-Some.is at c.requires.below)

pub returns-in-Some-clause-like : goal.returns-in-Some-clause-like
returns-in-Some-clause-like g c =
    let below = AllBelow-right c.args.depth c.args.kids.now c.in-Some.tail.items (rw c.in-Some.is at c.requires.below) in
    let parts = rw c.in-Some.is at c.requires.tail in
    (c.inner.ensures.depth, rw (c.inner.ensures.depth, c.inner.ensures.pairs) (deep_inner c.args.depth c.in-Some.tail.items below parts.0 parts.1))
