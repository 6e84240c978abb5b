use Rattle.std.proofs.Common.{◌≡◌, ◌-◌, ◌<◌, length, slice_index_or, arith, sym, ap, ◌∙◌, subst}
use Rattle.rope.specs.Nodes.{all_chars}
use Rattle.rope.specs.Shape.{AllBelow}
use Rattle.rope.proofs.KidLists.{below_at, below_given, chars_so_far, given_last, given_first}
use Rattle.rope.proofs.mend.give.Goals as goal

pub adopt_last-right-requires-clause-sound : goal.adopt_last-right-requires-clause-sound
adopt_last-right-requires-clause-sound c =
    let kids = c.args.kids.now.items in
    let j = c.args.k - 1 in
    let lt : j < length kids = omega (arith, c.requires.within, c.requires.some, c.if-k-gt0.true) in
    let v = c.index_mut.result.now in
    let is : v ≡ slice_index_or kids j v = c.index_mut.ensures.value in
    let both = below_at c.args.depth kids j v c.requires.below lt is in
    both.1

pub adopt_last-right-requires-clause-lower : goal.adopt_last-right-requires-clause-lower
adopt_last-right-requires-clause-lower c =
    let kids = c.args.kids.now.items in
    let j = c.args.k - 1 in
    let lt : j < length kids = omega (arith, c.requires.within, c.requires.some, c.if-k-gt0.true) in
    let v = c.index_mut.result.now in
    let is : v ≡ slice_index_or kids j v = c.index_mut.ensures.value in
    let both = below_at c.args.depth kids j v c.requires.below lt is in
    omega (arith, both.0, c.requires.lower)

pub adopt_last-right-requires-clause-small : goal.adopt_last-right-requires-clause-small
adopt_last-right-requires-clause-small c =
    let kids = c.args.kids.now.items in
    let j = c.args.k - 1 in
    let lt : j < length kids = omega (arith, c.requires.within, c.requires.some, c.if-k-gt0.true) in
    let v = c.index_mut.result.now in
    let is : v ≡ slice_index_or kids j v = c.index_mut.ensures.value in
    let both = below_at c.args.depth kids j v c.requires.below lt is in
    omega (arith, chars_so_far kids j v lt is, c.requires.small)

pub returns-then-k-gt0-clause-chars : goal.returns-then-k-gt0-clause-chars
returns-then-k-gt0-clause-chars c =
    let kids = c.args.kids.now.items in
    let j = c.args.k - 1 in
    let lt : j < length kids = omega (arith, c.requires.within, c.requires.some, c.if-k-gt0.true) in
    let v = c.index_mut.result.now in
    let is : v ≡ slice_index_or kids j v = c.index_mut.ensures.value in
    let both = below_at c.args.depth kids j v c.requires.below lt is in
    ap all_chars c.put_right.ensures.items ∙ given_last kids j c.args.k v c.adopt_last-right.new.self c.args.kid c.adopt_last-right.result (omega (arith, c.if-k-gt0.true)) lt is c.adopt_last-right.ensures.chars

pub returns-then-k-gt0-clause-below : goal.returns-then-k-gt0-clause-below
returns-then-k-gt0-clause-below c =
    let kids = c.args.kids.now.items in
    let j = c.args.k - 1 in
    let lt : j < length kids = omega (arith, c.requires.within, c.requires.some, c.if-k-gt0.true) in
    let v = c.index_mut.result.now in
    let is : v ≡ slice_index_or kids j v = c.index_mut.ensures.value in
    let both = below_at c.args.depth kids j v c.requires.below lt is in
    subst (AllBelow c.args.depth) (sym c.put_right.ensures.items)
    (below_given c.args.depth kids j c.args.k v c.adopt_last-right.new.self c.adopt_last-right.result (omega (arith, c.if-k-gt0.true)) lt c.requires.below both.0 c.adopt_last-right.ensures.depth c.adopt_last-right.ensures.sound c.adopt_last-right.ensures.like)

pub returns-else-k-gt0-clause-chars : goal.returns-else-k-gt0-clause-chars
returns-else-k-gt0-clause-chars c =
    let kids = c.args.kids.now.items in
    let lt : 0 < length kids = omega (arith, c.requires.some) in
    let v = c.index_mut-else-k-gt0.result.now in
    let is : v ≡ slice_index_or kids 0 v = c.index_mut-else-k-gt0.ensures.value in
    ap all_chars c.put_right-else-k-gt0.ensures.items ∙ given_first kids c.args.k v c.adopt_first-right.new.self c.args.kid c.adopt_first-right.result (omega (arith, c.if-k-gt0.false)) lt is c.adopt_first-right.ensures.chars
