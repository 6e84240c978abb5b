use Rattle.std.proofs.Common.{◌≡◌, ◌+◌, ◌<◌, ℕ, length, slice_index_or, sym, ap, ◌∙◌, arith}
use Rattle.std.proofs.lemmas.List.{get_or_default}
use Rattle.order_tree.specs.declared.summary.Sums.{Sums}
use Rattle.order_tree.proofs.EntryLaws.{as_parts, entry_is}
use Rattle.order_tree.proofs.LeafEdits.{free_here, between_here, split_is, parts_are}
use Rattle.order_tree.proofs.leaf.split_entry.Goals as goal

pub place_of-k-requires-clause-rising : goal.place_of-k-requires-clause-rising
place_of-k-requires-clause-rising g c = rw c.as_slice-list.ensures.value (as_parts c.args.entries.now.items c.requires.rising)

pub free_before-most-requires-clause-rising : goal.free_before-most-requires-clause-rising
free_before-most-requires-clause-rising g c = rw c.as_slice-list.ensures.value (as_parts c.args.entries.now.items c.requires.rising)

pub label_for-own-requires-clause-free : goal.label_for-own-requires-clause-free
label_for-own-requires-clause-free g c =
    let ps = c.args.entries.now.items in
    let k = c.place_of-k.result in
    let list = c.as_slice-list.ensures.value in
    let lt : k < length ps = rw list at c.place_of-k.ensures.within in
    let below = rw list at c.place_of-k.ensures.before in
    let above = rw list at c.place_of-k.ensures.behind in
    let free = rw list at c.free_before-most.ensures in
    let r = c.requires.placed.0 in
    let p = slice_index_or ps k (c.args.way.label, r) in
    let is : p ≡ slice_index_or ps k p = get_or_default ps k (c.args.way.label, r) p lt in
    free_here g.R.Run ps k c.args.way.label p r lt is c.requires.rising below above c.requires.placed.1 c.args.at c.args.given (c.args.way.most + 1) c.free_before-most.result free c.requires.label

pub label_for-own-requires-clause-between : goal.label_for-own-requires-clause-between
label_for-own-requires-clause-between g c =
    let ps = c.args.entries.now.items in
    let k = c.place_of-k.result in
    let list = c.as_slice-list.ensures.value in
    let lt : k < length ps = rw list at c.place_of-k.ensures.within in
    let below = rw list at c.place_of-k.ensures.before in
    let above = rw list at c.place_of-k.ensures.behind in
    let free = rw list at c.free_before-most.ensures in
    let r = c.requires.placed.0 in
    let p = slice_index_or ps k (c.args.way.label, r) in
    let is : p ≡ slice_index_or ps k p = get_or_default ps k (c.args.way.label, r) p lt in
    between_here g.R.Run ps k c.args.way.label p r lt is c.requires.rising below above c.requires.placed.1 c.args.at c.args.given (c.args.way.most + 1) c.free_before-most.result free c.requires.label

pub label_for-own-requires-clause-inside : goal.label_for-own-requires-clause-inside
label_for-own-requires-clause-inside g c =
    let ps = c.args.entries.now.items in
    let k = c.place_of-k.result in
    let list = c.as_slice-list.ensures.value in
    let lt : k < length ps = rw list at c.place_of-k.ensures.within in
    let below = rw list at c.place_of-k.ensures.before in
    let above = rw list at c.place_of-k.ensures.behind in
    let is : c.index-list-k.result ≡ slice_index_or ps k c.index-list-k.result = rw list at c.index-list-k.is in
    let same = entry_is ps k c.args.way.label c.index-list-k.result c.requires.placed.0 lt is c.requires.rising below above c.requires.placed.1 in
    let long = ap (λ (q : ℕ × _). length (g.R.Run.chars q.1)) (sym c.index-list-k.is ∙ same) in
    omega (arith, c.size.ensures, long, c.requires.placed.3)

pub split-first-requires-clause-rest : goal.split-first-requires-clause-rest
split-first-requires-clause-rest g c =
    let ps = c.args.entries.now.items in
    let k = c.place_of-k.result in
    let list = c.as_slice-list.ensures.value in
    let lt : k < length ps = rw list at c.place_of-k.ensures.within in
    let below = rw list at c.place_of-k.ensures.before in
    let above = rw list at c.place_of-k.ensures.behind in
    let is : c.index-list-k.result ≡ slice_index_or ps k c.index-list-k.result = rw list at c.index-list-k.is in
    let same = entry_is ps k c.args.way.label c.index-list-k.result c.requires.placed.0 lt is c.requires.rising below above c.requires.placed.1 in
    rw (← c.index-list-k.is, same) c.requires.placed.3

pub returns-clause-edited : goal.returns-clause-edited
returns-clause-edited g c =
    let ps = c.args.entries.now.items in
    let k = c.place_of-k.result in
    let list = c.as_slice-list.ensures.value in
    let lt : k < length ps = rw list at c.place_of-k.ensures.within in
    let below = rw list at c.place_of-k.ensures.before in
    let above = rw list at c.place_of-k.ensures.behind in
    let free = rw list at c.free_before-most.ensures in
    let is : c.index-list-k.result ≡ slice_index_or ps k c.index-list-k.result = rw list at c.index-list-k.is in
    let own = sym c.index-list-k.is in
    let r = c.requires.placed.0 in
    let same = entry_is ps k c.args.way.label c.index-list-k.result r lt is c.requires.rising below above c.requires.placed.1 in
    let cut = c.split-first.ensures in
    let first = c.split-first.result.0 in
    let second = c.split-first.result.1 in
    let parts = parts_are g.R.Run _ r c.args.at first second (ap (λ (q : ℕ × _). q.1) (own ∙ same)) cut.first cut.second cut.fits cut.back in
    let sum = c.plus-gained.ensures in
    split_is g.R.Run ps k c.args.way.label c.index-list-k.result r lt is c.requires.rising below above c.requires.placed.1 _ c.args.at c.args.given (c.args.way.most + 1) c.label_for-own.result c.free_before-most.result first second c.of-lost.result c.plus-gained.result
    c.put-tail.ensures.items parts c.label_for-own.ensures.above c.label_for-own.ensures.within free
    (c.of-lost.ensures.known ∙ ap (λ (q : ℕ × _). g.R.Run.known q.1) own) (c.of-lost.ensures.prepared ∙ ap (λ (q : ℕ × _). g.R.Run.prepared q.1) own) (c.of-lost.ensures.effect ∙ ap (λ (q : ℕ × _). g.R.Run.effect q.1) own)
    (ap (λ (s : Sums). s.known) sum ∙ ap (λ (n : ℕ). n + c.of-2.result.known) c.of.ensures.known ∙ ap (λ (n : ℕ). g.R.Run.known first + n) c.of-2.ensures.known)
    (ap (λ (s : Sums). s.prepared) sum ∙ ap (λ (n : ℕ). n + c.of-2.result.prepared) c.of.ensures.prepared ∙ ap (λ (n : ℕ). g.R.Run.prepared first + n) c.of-2.ensures.prepared)
    (ap (λ (s : Sums). s.effect) sum ∙ ap (λ (n : ℕ). n + c.of-2.result.effect) c.of.ensures.effect ∙ ap (λ (n : ℕ). g.R.Run.effect first + n) c.of-2.ensures.effect)
    c.label_for-own.ensures.given
