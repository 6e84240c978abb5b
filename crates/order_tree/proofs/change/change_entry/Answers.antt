use Rattle.std.proofs.Common.{◌≡◌, ◌<◌, ℕ, length, slice_index_or, sym, ap, ◌∙◌}
use Rattle.order_tree.proofs.EntryLaws.{as_parts, entry_is}
use Rattle.order_tree.proofs.ChangeLaws.{entry_changed, entry_moved, moved_one}
use Rattle.order_tree.proofs.change.change_entry.Goals as goal

pub place_of-k-requires-clause-rising : goal.place_of-k-requires-clause-rising
place_of-k-requires-clause-rising g c = rw c.as_slice-list.ensures.value (as_parts c.args.entries.now.items c.requires.rising)

pub returns-clause-pairs : goal.returns-clause-pairs
returns-clause-pairs g c =
    let ps = c.args.entries.now.items in
    let k = c.place_of-k.result in
    let list = c.as_slice-list.ensures.value in
    let lt : k < length ps = rw list at c.place_of-k.ensures.within in
    let is : c.index-list-k.result ≡ slice_index_or ps k c.index-list-k.result = rw list at c.index-list-k.is in
    let below = rw list at c.place_of-k.ensures.before in
    let above = rw list at c.place_of-k.ensures.behind in
    let same = entry_is ps k c.args.label c.index-list-k.result c.requires.held.0 lt is c.requires.rising below above c.requires.held.1 in
    entry_changed g.R.Run ps k c.args.label c.index-list-k.result lt is below above c.args.run (ap (λ (q : ℕ × _). q.0) same)

pub returns-clause-moved : goal.returns-clause-moved
returns-clause-moved g c =
    let ps = c.args.entries.now.items in
    let k = c.place_of-k.result in
    let list = c.as_slice-list.ensures.value in
    let lt : k < length ps = rw list at c.place_of-k.ensures.within in
    let is : c.index-list-k.result ≡ slice_index_or ps k c.index-list-k.result = rw list at c.index-list-k.is in
    let below = rw list at c.place_of-k.ensures.before in
    let above = rw list at c.place_of-k.ensures.behind in
    let own = sym c.index-list-k.is in
    entry_moved g.R.Run ps k c.args.label c.index-list-k.result lt is below above (c.args.label, c.args.run) c.of-lost.result c.of-gained.result
    (moved_one g.R.Run c.index-list-k.result (c.args.label, c.args.run) c.of-lost.result c.of-gained.result
    (c.of-lost.ensures.known ∙ ap (λ (q : ℕ × _). g.R.Run.known q.1) own) (c.of-lost.ensures.prepared ∙ ap (λ (q : ℕ × _). g.R.Run.prepared q.1) own) (c.of-lost.ensures.effect ∙ ap (λ (q : ℕ × _). g.R.Run.effect q.1) own)
    c.of-gained.ensures.known c.of-gained.ensures.prepared c.of-gained.ensures.effect)
