use Rattle.std.proofs.Common.{◌≡◌, ℕ, ◌+◌, ◌<◌, List, length, slice_set, slice_index_or, None, arith, rules, refl, sym, ap, ◌∙◌, subst}
use Rattle.std.proofs.lemmas.List.{length-set, take-set}
use Rattle.rope.specs.Nodes.{Seen, all_chars}
use Rattle.rope.specs.Counts.{wide_chars, utf8_bytes}
use Rattle.rope.specs.Shape.{AllBelow, IsSound, chars_in}
use Rattle.rope.specs.Deletions.{without}
use Rattle.rope.proofs.DeletionRuns.{length-without}
use Rattle.rope.proofs.ExtentLaws.{wide_most, bytes_most, wide_less, bytes_less}
use Rattle.rope.proofs.KidLists.{below_at, below_given, below-take, below-drop, bytes_part, bytes_put, less_chars, behind_put, get_put, chars_so_far, leaves_put, leaves_so_far, leaves_some, long_put, same_item, wide_part, wide_put}
use Rattle.rope.proofs.branch.Branch.+remove.Goals as goal

pub remove-many-requires-in-Inner : goal.remove-many-requires-in-Inner
remove-many-requires-in-Inner t c =
    let kids = c.in-Inner.kids.items in
    let k = c.kid_at-k.result.0 in
    let rest = c.kid_at-k.result.1 in
    let list = c.as_slice.ensures.value in
    let lt : k < length kids = rw list at c.kid_at-k.ensures.within in
    let place = rw list at c.kid_at-k.ensures.before in
    let v = c.index_mut.result.now in
    let is : v ≡ slice_index_or kids k v = c.index_mut.ensures.value in
    let shape = rw c.in-Inner.is at c.self.invariant.shape in
    let d = c.self.inside.depth in
    let both = below_at d kids k v shape.0 lt is in
    let here : all_chars kids ≡ c.args.self.now.chars = sym (ap chars_in c.in-Inner.is) ∙ ap (λ (s : Seen). s.chars) c.self.view_is in
    let read = rw list at c.kid_at-k.ensures.inside in
    let inside : rest < length v.chars = subst (λ (s : Seen). rest < length s.chars) (sym is) (read v) in
    let deep : c.args.self.now.depth ≡ d = sym (ap (λ (s : Seen). s.depth) c.self.view_is) in
    let near = chars_so_far kids k v lt is in
    (omega (arith, c.decreases, both.0, deep), (inside, (both.1, (omega (arith, near, ap length here, c.requires.small), c.requires.some))))

pub mend-requires-clause-before : goal.mend-requires-clause-before
mend-requires-clause-before t c =
    let kids = c.in-Inner.kids.items in
    let k = c.kid_at-k.result.0 in
    let rest = c.kid_at-k.result.1 in
    let list = c.as_slice.ensures.value in
    let lt : k < length kids = rw list at c.kid_at-k.ensures.within in
    let place = rw list at c.kid_at-k.ensures.before in
    let v = c.index_mut.result.now in
    let is : v ≡ slice_index_or kids k v = c.index_mut.ensures.value in
    let shape = rw c.in-Inner.is at c.self.invariant.shape in
    let d = c.self.inside.depth in
    let both = below_at d kids k v shape.0 lt is in
    let here : all_chars kids ≡ c.args.self.now.chars = sym (ap chars_in c.in-Inner.is) ∙ ap (λ (s : Seen). s.chars) c.self.view_is in
    let read = rw list at c.kid_at-k.ensures.inside in
    let inside : rest < length v.chars = subst (λ (s : Seen). rest < length s.chars) (sym is) (read v) in
    let w = c.remove-many-in-Inner.new.self in
    subst (AllBelow d) (sym (take-set kids k w)) (below-take d k kids shape.0)

pub mend-requires-clause-behind : goal.mend-requires-clause-behind
mend-requires-clause-behind t c =
    let kids = c.in-Inner.kids.items in
    let k = c.kid_at-k.result.0 in
    let rest = c.kid_at-k.result.1 in
    let list = c.as_slice.ensures.value in
    let lt : k < length kids = rw list at c.kid_at-k.ensures.within in
    let place = rw list at c.kid_at-k.ensures.before in
    let v = c.index_mut.result.now in
    let is : v ≡ slice_index_or kids k v = c.index_mut.ensures.value in
    let shape = rw c.in-Inner.is at c.self.invariant.shape in
    let d = c.self.inside.depth in
    let both = below_at d kids k v shape.0 lt is in
    let here : all_chars kids ≡ c.args.self.now.chars = sym (ap chars_in c.in-Inner.is) ∙ ap (λ (s : Seen). s.chars) c.self.view_is in
    let read = rw list at c.kid_at-k.ensures.inside in
    let inside : rest < length v.chars = subst (λ (s : Seen). rest < length s.chars) (sym is) (read v) in
    let w = c.remove-many-in-Inner.new.self in
    subst (AllBelow d) (sym (behind_put kids k w)) (below-drop d (k + 1) kids shape.0)

pub mend-requires-clause-lower : goal.mend-requires-clause-lower
mend-requires-clause-lower t c =
    let kids = c.in-Inner.kids.items in
    let k = c.kid_at-k.result.0 in
    let rest = c.kid_at-k.result.1 in
    let list = c.as_slice.ensures.value in
    let lt : k < length kids = rw list at c.kid_at-k.ensures.within in
    let place = rw list at c.kid_at-k.ensures.before in
    let v = c.index_mut.result.now in
    let is : v ≡ slice_index_or kids k v = c.index_mut.ensures.value in
    let shape = rw c.in-Inner.is at c.self.invariant.shape in
    let d = c.self.inside.depth in
    let both = below_at d kids k v shape.0 lt is in
    let here : all_chars kids ≡ c.args.self.now.chars = sym (ap chars_in c.in-Inner.is) ∙ ap (λ (s : Seen). s.chars) c.self.view_is in
    let read = rw list at c.kid_at-k.ensures.inside in
    let inside : rest < length v.chars = subst (λ (s : Seen). rest < length s.chars) (sym is) (read v) in
    let w = c.remove-many-in-Inner.new.self in
    λ (e : Seen). ap (λ (s : Seen). s.depth + 1) (get_put kids k w e lt) ∙ ap (λ (n : ℕ). n + 1) c.remove-many-in-Inner.ensures.depth ∙ both.0

pub mend-requires-clause-small : goal.mend-requires-clause-small
mend-requires-clause-small t c =
    let kids = c.in-Inner.kids.items in
    let k = c.kid_at-k.result.0 in
    let rest = c.kid_at-k.result.1 in
    let list = c.as_slice.ensures.value in
    let lt : k < length kids = rw list at c.kid_at-k.ensures.within in
    let place = rw list at c.kid_at-k.ensures.before in
    let v = c.index_mut.result.now in
    let is : v ≡ slice_index_or kids k v = c.index_mut.ensures.value in
    let shape = rw c.in-Inner.is at c.self.invariant.shape in
    let d = c.self.inside.depth in
    let both = below_at d kids k v shape.0 lt is in
    let here : all_chars kids ≡ c.args.self.now.chars = sym (ap chars_in c.in-Inner.is) ∙ ap (λ (s : Seen). s.chars) c.self.view_is in
    let read = rw list at c.kid_at-k.ensures.inside in
    let inside : rest < length v.chars = subst (λ (s : Seen). rest < length s.chars) (sym is) (read v) in
    let w = c.remove-many-in-Inner.new.self in
    let out = c.remove-many-in-Inner.ensures in
    let many = c.remove-many-in-Inner.result in
    let less : all_chars (slice_set kids k w) ≡ without (all_chars kids) c.args.at many = less_chars kids k c.args.at rest many v w lt is place out.inside out.chars in
    let near = chars_so_far kids k v lt is in
    let short = length-without (all_chars kids) c.args.at many (omega (arith, near, place, out.inside)) in
    omega (arith, ap length less, short, ap length here, c.requires.small)

pub sizes_in-sizes-requires-clause-small : goal.sizes_in-sizes-requires-clause-small
sizes_in-sizes-requires-clause-small t c =
    let kids = c.in-Inner.kids.items in
    let k = c.kid_at-k.result.0 in
    let rest = c.kid_at-k.result.1 in
    let list = c.as_slice.ensures.value in
    let lt : k < length kids = rw list at c.kid_at-k.ensures.within in
    let place = rw list at c.kid_at-k.ensures.before in
    let v = c.index_mut.result.now in
    let is : v ≡ slice_index_or kids k v = c.index_mut.ensures.value in
    let shape = rw c.in-Inner.is at c.self.invariant.shape in
    let d = c.self.inside.depth in
    let both = below_at d kids k v shape.0 lt is in
    let here : all_chars kids ≡ c.args.self.now.chars = sym (ap chars_in c.in-Inner.is) ∙ ap (λ (s : Seen). s.chars) c.self.view_is in
    let read = rw list at c.kid_at-k.ensures.inside in
    let inside : rest < length v.chars = subst (λ (s : Seen). rest < length s.chars) (sym is) (read v) in
    let w = c.remove-many-in-Inner.new.self in
    let out = c.remove-many-in-Inner.ensures in
    let many = c.remove-many-in-Inner.result in
    let less : all_chars (slice_set kids k w) ≡ without (all_chars kids) c.args.at many = less_chars kids k c.args.at rest many v w lt is place out.inside out.chars in
    let near = chars_so_far kids k v lt is in
    let short = length-without (all_chars kids) c.args.at many (omega (arith, near, place, out.inside)) in
    omega (arith, ap (λ (ks : List Seen). length (all_chars ks)) c.as_slice-in-Inner.ensures.value, ap length c.mend.ensures.chars, ap length less, short, ap length here, c.requires.small)

pub returns-else-is_sound-clause-chars : goal.returns-else-is_sound-clause-chars
returns-else-is_sound-clause-chars t c =
    let kids = c.in-Inner.kids.items in
    let k = c.kid_at-k.result.0 in
    let rest = c.kid_at-k.result.1 in
    let list = c.as_slice.ensures.value in
    let lt : k < length kids = rw list at c.kid_at-k.ensures.within in
    let place = rw list at c.kid_at-k.ensures.before in
    let v = c.index_mut.result.now in
    let is : v ≡ slice_index_or kids k v = c.index_mut.ensures.value in
    let shape = rw c.in-Inner.is at c.self.invariant.shape in
    let d = c.self.inside.depth in
    let both = below_at d kids k v shape.0 lt is in
    let here : all_chars kids ≡ c.args.self.now.chars = sym (ap chars_in c.in-Inner.is) ∙ ap (λ (s : Seen). s.chars) c.self.view_is in
    let read = rw list at c.kid_at-k.ensures.inside in
    let inside : rest < length v.chars = subst (λ (s : Seen). rest < length s.chars) (sym is) (read v) in
    let w = c.remove-many-in-Inner.new.self in
    let out = c.remove-many-in-Inner.ensures in
    let many = c.remove-many-in-Inner.result in
    let less : all_chars (slice_set kids k w) ≡ without (all_chars kids) c.args.at many = less_chars kids k c.args.at rest many v w lt is place out.inside out.chars in
    let near = chars_so_far kids k v lt is in
    let short = length-without (all_chars kids) c.args.at many (omega (arith, near, place, out.inside)) in
    c.mend.ensures.chars ∙ less ∙ ap (λ (cs : List ℕ). without cs c.args.at many) here

pub returns-else-is_sound-clause-inside : goal.returns-else-is_sound-clause-inside
returns-else-is_sound-clause-inside t c =
    let kids = c.in-Inner.kids.items in
    let k = c.kid_at-k.result.0 in
    let rest = c.kid_at-k.result.1 in
    let list = c.as_slice.ensures.value in
    let lt : k < length kids = rw list at c.kid_at-k.ensures.within in
    let place = rw list at c.kid_at-k.ensures.before in
    let v = c.index_mut.result.now in
    let is : v ≡ slice_index_or kids k v = c.index_mut.ensures.value in
    let here : all_chars kids ≡ c.args.self.now.chars = sym (ap chars_in c.in-Inner.is) ∙ ap (λ (s : Seen). s.chars) c.self.view_is in
    omega (arith, chars_so_far kids k v lt is, place, c.remove-many-in-Inner.ensures.inside, ap length here)

-- IN A LEAF
pub overflow_sub-self : goal.overflow_sub-self
overflow_sub-self t c =
    let had = rw c.in-Leaf.is at c.self.invariant.doubled in
    let out = c.remove-many.ensures in
    omega (arith, had, c.extents_from-gone.ensures.wide, wide_less c.remove-many.new.self c.in-Leaf.leaf c.args.at c.remove-many.result c.args.most out.chars out.most out.all)

pub overflow_sub-self-in-Leaf : goal.overflow_sub-self-in-Leaf
overflow_sub-self-in-Leaf t c =
    let had = rw c.in-Leaf.is at c.self.invariant.spelled in
    let out = c.remove-many.ensures in
    omega (arith, had, c.extents_from-gone.ensures.bytes, bytes_less c.remove-many.new.self c.in-Leaf.leaf c.args.at c.remove-many.result c.args.most out.chars out.most out.all)

pub invariant_of-self : goal.invariant_of-self
invariant_of-self t c =
    let shape = rw c.in-Leaf.is at c.self.invariant.shape in
    let wide = rw c.in-Leaf.is at c.self.invariant.doubled in
    let bytes = rw c.in-Leaf.is at c.self.invariant.spelled in
    let out = c.remove-many.ensures in
    record {
      shape = (shape.0, shape.1, c.len-self-inside.ensures.few);
      counted = c.len-self-inside.ensures.value;
      doubled = omega (arith, wide, c.extents_from-gone.ensures.wide, wide_less c.remove-many.new.self c.in-Leaf.leaf c.args.at c.remove-many.result c.args.most out.chars out.most out.all);
      spelled = omega (arith, bytes, c.extents_from-gone.ensures.bytes, bytes_less c.remove-many.new.self c.in-Leaf.leaf c.args.at c.remove-many.result c.args.most out.chars out.most out.all);
    }

-- WHERE THE BRANCH BELOW HAS PARTS ENOUGH
pub overflow_sub-self-then-is_sound : goal.overflow_sub-self-then-is_sound
overflow_sub-self-then-is_sound t c =
    let kids = c.in-Inner.kids.items in
    let k = c.kid_at-k.result.0 in
    let rest = c.kid_at-k.result.1 in
    let list = c.as_slice.ensures.value in
    let lt : k < length kids = rw list at c.kid_at-k.ensures.within in
    let place = rw list at c.kid_at-k.ensures.before in
    let v = c.index_mut.result.now in
    let is : v ≡ slice_index_or kids k v = c.index_mut.ensures.value in
    let w = c.remove-many-in-Inner.new.self in
    let b : c.index.result.now ≡ v = same_item kids k c.index.result.now v lt c.index.ensures is in
    let a : c.index-then-is_sound.result.now ≡ w = c.index-then-is_sound.ensures ∙ get_put kids k w c.index-then-is_sound.result.now lt in
    let was = c.sizes-before.ensures in
    let now = c.sizes-after.ensures in
    let own = rw c.in-Inner.is at c.self.invariant in
    let here : all_chars kids ≡ c.args.self.now.chars = sym (ap chars_in c.in-Inner.is) ∙ ap (λ (s : Seen). s.chars) c.self.view_is in
    let out = c.remove-many-in-Inner.ensures in
    let many = c.remove-many-in-Inner.result in
    let near = chars_so_far kids k v lt is in
    let less : all_chars (slice_set kids k w) ≡ without (all_chars kids) c.args.at many = less_chars kids k c.args.at rest many v w lt is place out.inside out.chars in
    let short = length-without (all_chars kids) c.args.at many (omega (arith, near, place, out.inside)) in
    omega (arith, was.chars, own.counted, ap (λ (s : Seen). length s.chars) b, near)

pub overflow_add-self-then-is_sound : goal.overflow_add-self-then-is_sound
overflow_add-self-then-is_sound t c =
    let kids = c.in-Inner.kids.items in
    let k = c.kid_at-k.result.0 in
    let rest = c.kid_at-k.result.1 in
    let list = c.as_slice.ensures.value in
    let lt : k < length kids = rw list at c.kid_at-k.ensures.within in
    let place = rw list at c.kid_at-k.ensures.before in
    let v = c.index_mut.result.now in
    let is : v ≡ slice_index_or kids k v = c.index_mut.ensures.value in
    let w = c.remove-many-in-Inner.new.self in
    let b : c.index.result.now ≡ v = same_item kids k c.index.result.now v lt c.index.ensures is in
    let a : c.index-then-is_sound.result.now ≡ w = c.index-then-is_sound.ensures ∙ get_put kids k w c.index-then-is_sound.result.now lt in
    let was = c.sizes-before.ensures in
    let now = c.sizes-after.ensures in
    let own = rw c.in-Inner.is at c.self.invariant in
    let here : all_chars kids ≡ c.args.self.now.chars = sym (ap chars_in c.in-Inner.is) ∙ ap (λ (s : Seen). s.chars) c.self.view_is in
    let out = c.remove-many-in-Inner.ensures in
    let many = c.remove-many-in-Inner.result in
    let near = chars_so_far kids k v lt is in
    let less : all_chars (slice_set kids k w) ≡ without (all_chars kids) c.args.at many = less_chars kids k c.args.at rest many v w lt is place out.inside out.chars in
    let short = length-without (all_chars kids) c.args.at many (omega (arith, near, place, out.inside)) in
    let shape = own.shape in
    let d = c.self.inside.depth in
    let lower = below_at d kids k v shape.0 lt is in
    let stands : c.index-in-Inner.result.now ≡ w = c.index-in-Inner.ensures ∙ get_put kids k w c.index-in-Inner.result.now lt in
    let found : IsSound c.index-in-Inner.result.now = search rules in
    let sound : IsSound w = subst IsSound stands found in
    let below : AllBelow d (slice_set kids k w) = below_given d kids k (k + 1) v w None refl lt shape.0 lower.0 out.depth sound tt in
    let leaves = leaves_put kids k v w lt is in
    omega (arith, was.leaves, now.leaves, shape.1, ap (λ (s : Seen). s.leaves) b, ap (λ (s : Seen). s.leaves) a, leaves, leaves_so_far kids k v lt is, leaves_some d (slice_set kids k w) below, ap length less, short, ap length here, c.requires.small)

pub overflow_sub-self-then-is_sound-3 : goal.overflow_sub-self-then-is_sound-3
overflow_sub-self-then-is_sound-3 t c =
    let kids = c.in-Inner.kids.items in
    let k = c.kid_at-k.result.0 in
    let rest = c.kid_at-k.result.1 in
    let list = c.as_slice.ensures.value in
    let lt : k < length kids = rw list at c.kid_at-k.ensures.within in
    let place = rw list at c.kid_at-k.ensures.before in
    let v = c.index_mut.result.now in
    let is : v ≡ slice_index_or kids k v = c.index_mut.ensures.value in
    let w = c.remove-many-in-Inner.new.self in
    let b : c.index.result.now ≡ v = same_item kids k c.index.result.now v lt c.index.ensures is in
    let a : c.index-then-is_sound.result.now ≡ w = c.index-then-is_sound.ensures ∙ get_put kids k w c.index-then-is_sound.result.now lt in
    let was = c.sizes-before.ensures in
    let now = c.sizes-after.ensures in
    let own = rw c.in-Inner.is at c.self.invariant in
    let here : all_chars kids ≡ c.args.self.now.chars = sym (ap chars_in c.in-Inner.is) ∙ ap (λ (s : Seen). s.chars) c.self.view_is in
    let out = c.remove-many-in-Inner.ensures in
    let many = c.remove-many-in-Inner.result in
    let near = chars_so_far kids k v lt is in
    let less : all_chars (slice_set kids k w) ≡ without (all_chars kids) c.args.at many = less_chars kids k c.args.at rest many v w lt is place out.inside out.chars in
    let short = length-without (all_chars kids) c.args.at many (omega (arith, near, place, out.inside)) in
    omega (arith, was.wide, own.doubled, ap (λ (s : Seen). wide_chars s.chars) b, wide_part kids k v lt is)

pub overflow_add-self-then-is_sound-2 : goal.overflow_add-self-then-is_sound-2
overflow_add-self-then-is_sound-2 t c =
    let kids = c.in-Inner.kids.items in
    let k = c.kid_at-k.result.0 in
    let rest = c.kid_at-k.result.1 in
    let list = c.as_slice.ensures.value in
    let lt : k < length kids = rw list at c.kid_at-k.ensures.within in
    let place = rw list at c.kid_at-k.ensures.before in
    let v = c.index_mut.result.now in
    let is : v ≡ slice_index_or kids k v = c.index_mut.ensures.value in
    let w = c.remove-many-in-Inner.new.self in
    let b : c.index.result.now ≡ v = same_item kids k c.index.result.now v lt c.index.ensures is in
    let a : c.index-then-is_sound.result.now ≡ w = c.index-then-is_sound.ensures ∙ get_put kids k w c.index-then-is_sound.result.now lt in
    let was = c.sizes-before.ensures in
    let now = c.sizes-after.ensures in
    let own = rw c.in-Inner.is at c.self.invariant in
    let here : all_chars kids ≡ c.args.self.now.chars = sym (ap chars_in c.in-Inner.is) ∙ ap (λ (s : Seen). s.chars) c.self.view_is in
    let out = c.remove-many-in-Inner.ensures in
    let many = c.remove-many-in-Inner.result in
    let near = chars_so_far kids k v lt is in
    let less : all_chars (slice_set kids k w) ≡ without (all_chars kids) c.args.at many = less_chars kids k c.args.at rest many v w lt is place out.inside out.chars in
    let short = length-without (all_chars kids) c.args.at many (omega (arith, near, place, out.inside)) in
    omega (arith, was.wide, now.wide, own.doubled, ap (λ (s : Seen). wide_chars s.chars) b, ap (λ (s : Seen). wide_chars s.chars) a, wide_part kids k v lt is, wide_put kids k v w lt is, wide_most (all_chars (slice_set kids k w)), ap length less, short, ap length here, c.requires.small)

pub overflow_sub-self-then-is_sound-4 : goal.overflow_sub-self-then-is_sound-4
overflow_sub-self-then-is_sound-4 t c =
    let kids = c.in-Inner.kids.items in
    let k = c.kid_at-k.result.0 in
    let rest = c.kid_at-k.result.1 in
    let list = c.as_slice.ensures.value in
    let lt : k < length kids = rw list at c.kid_at-k.ensures.within in
    let place = rw list at c.kid_at-k.ensures.before in
    let v = c.index_mut.result.now in
    let is : v ≡ slice_index_or kids k v = c.index_mut.ensures.value in
    let w = c.remove-many-in-Inner.new.self in
    let b : c.index.result.now ≡ v = same_item kids k c.index.result.now v lt c.index.ensures is in
    let a : c.index-then-is_sound.result.now ≡ w = c.index-then-is_sound.ensures ∙ get_put kids k w c.index-then-is_sound.result.now lt in
    let was = c.sizes-before.ensures in
    let now = c.sizes-after.ensures in
    let own = rw c.in-Inner.is at c.self.invariant in
    let here : all_chars kids ≡ c.args.self.now.chars = sym (ap chars_in c.in-Inner.is) ∙ ap (λ (s : Seen). s.chars) c.self.view_is in
    let out = c.remove-many-in-Inner.ensures in
    let many = c.remove-many-in-Inner.result in
    let near = chars_so_far kids k v lt is in
    let less : all_chars (slice_set kids k w) ≡ without (all_chars kids) c.args.at many = less_chars kids k c.args.at rest many v w lt is place out.inside out.chars in
    let short = length-without (all_chars kids) c.args.at many (omega (arith, near, place, out.inside)) in
    omega (arith, was.bytes, own.spelled, ap (λ (s : Seen). utf8_bytes s.chars) b, bytes_part kids k v lt is)

pub overflow_add-self-then-is_sound-3 : goal.overflow_add-self-then-is_sound-3
overflow_add-self-then-is_sound-3 t c =
    let kids = c.in-Inner.kids.items in
    let k = c.kid_at-k.result.0 in
    let rest = c.kid_at-k.result.1 in
    let list = c.as_slice.ensures.value in
    let lt : k < length kids = rw list at c.kid_at-k.ensures.within in
    let place = rw list at c.kid_at-k.ensures.before in
    let v = c.index_mut.result.now in
    let is : v ≡ slice_index_or kids k v = c.index_mut.ensures.value in
    let w = c.remove-many-in-Inner.new.self in
    let b : c.index.result.now ≡ v = same_item kids k c.index.result.now v lt c.index.ensures is in
    let a : c.index-then-is_sound.result.now ≡ w = c.index-then-is_sound.ensures ∙ get_put kids k w c.index-then-is_sound.result.now lt in
    let was = c.sizes-before.ensures in
    let now = c.sizes-after.ensures in
    let own = rw c.in-Inner.is at c.self.invariant in
    let here : all_chars kids ≡ c.args.self.now.chars = sym (ap chars_in c.in-Inner.is) ∙ ap (λ (s : Seen). s.chars) c.self.view_is in
    let out = c.remove-many-in-Inner.ensures in
    let many = c.remove-many-in-Inner.result in
    let near = chars_so_far kids k v lt is in
    let less : all_chars (slice_set kids k w) ≡ without (all_chars kids) c.args.at many = less_chars kids k c.args.at rest many v w lt is place out.inside out.chars in
    let short = length-without (all_chars kids) c.args.at many (omega (arith, near, place, out.inside)) in
    omega (arith, was.bytes, now.bytes, own.spelled, ap (λ (s : Seen). utf8_bytes s.chars) b, ap (λ (s : Seen). utf8_bytes s.chars) a, bytes_part kids k v lt is, bytes_put kids k v w lt is, bytes_most (all_chars (slice_set kids k w)), ap length less, short, ap length here, c.requires.small)

pub invariant_of-self-then-is_sound : goal.invariant_of-self-then-is_sound
invariant_of-self-then-is_sound t c =
    let kids = c.in-Inner.kids.items in
    let k = c.kid_at-k.result.0 in
    let rest = c.kid_at-k.result.1 in
    let list = c.as_slice.ensures.value in
    let lt : k < length kids = rw list at c.kid_at-k.ensures.within in
    let place = rw list at c.kid_at-k.ensures.before in
    let v = c.index_mut.result.now in
    let is : v ≡ slice_index_or kids k v = c.index_mut.ensures.value in
    let w = c.remove-many-in-Inner.new.self in
    let b : c.index.result.now ≡ v = same_item kids k c.index.result.now v lt c.index.ensures is in
    let a : c.index-then-is_sound.result.now ≡ w = c.index-then-is_sound.ensures ∙ get_put kids k w c.index-then-is_sound.result.now lt in
    let was = c.sizes-before.ensures in
    let now = c.sizes-after.ensures in
    let own = rw c.in-Inner.is at c.self.invariant in
    let here : all_chars kids ≡ c.args.self.now.chars = sym (ap chars_in c.in-Inner.is) ∙ ap (λ (s : Seen). s.chars) c.self.view_is in
    let out = c.remove-many-in-Inner.ensures in
    let many = c.remove-many-in-Inner.result in
    let near = chars_so_far kids k v lt is in
    let less : all_chars (slice_set kids k w) ≡ without (all_chars kids) c.args.at many = less_chars kids k c.args.at rest many v w lt is place out.inside out.chars in
    let short = length-without (all_chars kids) c.args.at many (omega (arith, near, place, out.inside)) in
    let shape = own.shape in
    let d = c.self.inside.depth in
    let lower = below_at d kids k v shape.0 lt is in
    let stands : c.index-in-Inner.result.now ≡ w = c.index-in-Inner.ensures ∙ get_put kids k w c.index-in-Inner.result.now lt in
    let found : IsSound c.index-in-Inner.result.now = search rules in
    let sound : IsSound w = subst IsSound stands found in
    let below : AllBelow d (slice_set kids k w) = below_given d kids k (k + 1) v w None refl lt shape.0 lower.0 out.depth sound tt in
    let leaves = leaves_put kids k v w lt is in
    let same = length-set kids k w in
    record {
      shape = (below, omega (arith, was.leaves, now.leaves, shape.1, ap (λ (s : Seen). s.leaves) b, ap (λ (s : Seen). s.leaves) a, leaves, leaves_so_far kids k v lt is), omega (arith, same, shape.2), omega (arith, same, shape.3), shape.4);
      counted = omega (arith, was.chars, now.chars, own.counted, ap (λ (s : Seen). length s.chars) b, ap (λ (s : Seen). length s.chars) a, near, long_put kids k v w lt is);
      doubled = omega (arith, was.wide, now.wide, own.doubled, ap (λ (s : Seen). wide_chars s.chars) b, ap (λ (s : Seen). wide_chars s.chars) a, wide_part kids k v lt is, wide_put kids k v w lt is);
      spelled = omega (arith, was.bytes, now.bytes, own.spelled, ap (λ (s : Seen). utf8_bytes s.chars) b, ap (λ (s : Seen). utf8_bytes s.chars) a, bytes_part kids k v lt is, bytes_put kids k v w lt is);
    }

pub returns-then-is_sound-clause-chars : goal.returns-then-is_sound-clause-chars
returns-then-is_sound-clause-chars t c =
    let kids = c.in-Inner.kids.items in
    let k = c.kid_at-k.result.0 in
    let rest = c.kid_at-k.result.1 in
    let list = c.as_slice.ensures.value in
    let lt : k < length kids = rw list at c.kid_at-k.ensures.within in
    let place = rw list at c.kid_at-k.ensures.before in
    let v = c.index_mut.result.now in
    let is : v ≡ slice_index_or kids k v = c.index_mut.ensures.value in
    let w = c.remove-many-in-Inner.new.self in
    let b : c.index.result.now ≡ v = same_item kids k c.index.result.now v lt c.index.ensures is in
    let a : c.index-then-is_sound.result.now ≡ w = c.index-then-is_sound.ensures ∙ get_put kids k w c.index-then-is_sound.result.now lt in
    let was = c.sizes-before.ensures in
    let now = c.sizes-after.ensures in
    let own = rw c.in-Inner.is at c.self.invariant in
    let here : all_chars kids ≡ c.args.self.now.chars = sym (ap chars_in c.in-Inner.is) ∙ ap (λ (s : Seen). s.chars) c.self.view_is in
    let out = c.remove-many-in-Inner.ensures in
    let many = c.remove-many-in-Inner.result in
    let near = chars_so_far kids k v lt is in
    let less : all_chars (slice_set kids k w) ≡ without (all_chars kids) c.args.at many = less_chars kids k c.args.at rest many v w lt is place out.inside out.chars in
    let short = length-without (all_chars kids) c.args.at many (omega (arith, near, place, out.inside)) in
    less ∙ ap (λ (cs : List ℕ). without cs c.args.at many) here

pub returns-then-is_sound-clause-inside : goal.returns-then-is_sound-clause-inside
returns-then-is_sound-clause-inside t c =
    let kids = c.in-Inner.kids.items in
    let k = c.kid_at-k.result.0 in
    let rest = c.kid_at-k.result.1 in
    let list = c.as_slice.ensures.value in
    let lt : k < length kids = rw list at c.kid_at-k.ensures.within in
    let place = rw list at c.kid_at-k.ensures.before in
    let v = c.index_mut.result.now in
    let is : v ≡ slice_index_or kids k v = c.index_mut.ensures.value in
    let w = c.remove-many-in-Inner.new.self in
    let b : c.index.result.now ≡ v = same_item kids k c.index.result.now v lt c.index.ensures is in
    let a : c.index-then-is_sound.result.now ≡ w = c.index-then-is_sound.ensures ∙ get_put kids k w c.index-then-is_sound.result.now lt in
    let was = c.sizes-before.ensures in
    let now = c.sizes-after.ensures in
    let own = rw c.in-Inner.is at c.self.invariant in
    let here : all_chars kids ≡ c.args.self.now.chars = sym (ap chars_in c.in-Inner.is) ∙ ap (λ (s : Seen). s.chars) c.self.view_is in
    let out = c.remove-many-in-Inner.ensures in
    let many = c.remove-many-in-Inner.result in
    let near = chars_so_far kids k v lt is in
    let less : all_chars (slice_set kids k w) ≡ without (all_chars kids) c.args.at many = less_chars kids k c.args.at rest many v w lt is place out.inside out.chars in
    let short = length-without (all_chars kids) c.args.at many (omega (arith, near, place, out.inside)) in
    omega (arith, near, place, out.inside, ap length here)
