use Rattle.std.proofs.Common.{sym, subst}
use Rattle.rope.specs.Shape.{AllBelow}
use Rattle.rope.proofs.KidLists.{below_front, below_back}
use Rattle.rope.proofs.halves.put_kid.Goals as goal

pub inner-requires-clause-below : goal.inner-requires-clause-below
inner-requires-clause-below c =
    let items = rw c.in-Some.is at c.put.ensures.items in
    below_back c.args.depth c.put.new.kids.items c.in-Some.tail.items (subst (AllBelow c.args.depth) (sym items) c.requires.below)

pub returns-in-Some-clause-below : goal.returns-in-Some-clause-below
returns-in-Some-clause-below c =
    let items = rw c.in-Some.is at c.put.ensures.items in
    below_front c.args.depth c.put.new.kids.items c.in-Some.tail.items (subst (AllBelow c.args.depth) (sym items) c.requires.below)
