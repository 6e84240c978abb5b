use Rattle.std.proofs.Common.{◌≡◌, ℕ, ◌+◌, ◌-◌, ◌<◌, ◌≤◌, List, [], ◌++◌, length, slice_set, slice_index_or, Option, None, append-nil, length-append, arith, refl, sym, ap, ◌∙◌, subst}
use Rattle.std.proofs.lemmas.List.{length-set}
use Rattle.std.proofs.lemmas.Bool.{false≢true}
use Rattle.rope.specs.Nodes.{Seen, all_chars, all_leaves}
use Rattle.rope.specs.Counts.{wide_chars, utf8_bytes}
use Rattle.rope.specs.Shape.{AllBelow, chars_in, least, parts_in}
use Rattle.rope.specs.Rights.{chars_of_right, with_right}
use Rattle.rope.specs.Typed.{typed, with_more}
use Rattle.rope.proofs.TypedRuns.{length-with_more, put_in}
use Rattle.rope.proofs.ExtentLaws.{wide_most, bytes_most, wide_grown, bytes_grown}
use Rattle.rope.proofs.KidLists.{below_at, below_given, bytes_part, chars_so_far, get_put, grown_chars, high, least_two, leaves_put, leaves_so_far, leaves_some, none_is, same_item, sound_inner, wide_part}
use Rattle.rope.proofs.SpareCounts.{above_most, spent}
use Rattle.rope.proofs.branch.Branch.+insert.Goals as goal

pub insert-requires : goal.insert-requires
insert-requires t c =
    let kids = c.in-Inner.kids.items in
    let k = c.kid_open-k.result.0 in
    let rest = c.kid_open-k.result.1 in
    let list = c.as_slice.ensures.value in
    let lt : k < length kids = rw list at c.kid_open-k.ensures.within in
    let place = rw list at c.kid_open-k.ensures.before in
    let v = c.index_mut.result.now in
    let is : v ≡ slice_index_or kids k v = c.index_mut.ensures.value in
    let shape = rw c.in-Inner.is at c.self.invariant.shape in
    let d = c.self.inside.depth in
    let both = below_at d kids k v shape.0 lt is in
    let deep : c.args.self.now.depth ≡ d = sym (ap (λ (s : Seen). s.depth) c.self.view_is) in
    let here : all_chars kids ≡ c.args.self.now.chars = sym (ap chars_in c.in-Inner.is) ∙ ap (λ (s : Seen). s.chars) c.self.view_is in
    let read = rw list at c.kid_open-k.ensures.inside in
    let inside : rest ≤ length v.chars = subst (λ (s : Seen). rest ≤ length s.chars) (sym is) (read v) in
    let near = chars_so_far kids k v lt is in
    let most = above_most (length c.as_slice-in-Inner.result.now) c.args.above c.above_kids-above_kids.result c.above_kids-above_kids.ensures in
    (omega (arith, c.decreases, both.0, deep), (inside, (both.1, (omega (arith, near, ap length here, c.requires.small), (omega (arith, most, both.0, deep, c.requires.above), (c.requires.some, c.requires.few))))))

pub returns-in_err-right-in-Inner-clause-nodes : goal.returns-in_err-right-in-Inner-clause-nodes
returns-in_err-right-in-Inner-clause-nodes t c =
    let kids = c.in-Inner.kids.items in
    let k = c.kid_open-k.result.0 in
    let rest = c.kid_open-k.result.1 in
    let list = c.as_slice.ensures.value in
    let lt : k < length kids = rw list at c.kid_open-k.ensures.within in
    let place = rw list at c.kid_open-k.ensures.before in
    let v = c.index_mut.result.now in
    let is : v ≡ slice_index_or kids k v = c.index_mut.ensures.value in
    let shape = rw c.in-Inner.is at c.self.invariant.shape in
    let d = c.self.inside.depth in
    let both = below_at d kids k v shape.0 lt is in
    let deep : c.args.self.now.depth ≡ d = sym (ap (λ (s : Seen). s.depth) c.self.view_is) in
    let here : all_chars kids ≡ c.args.self.now.chars = sym (ap chars_in c.in-Inner.is) ∙ ap (λ (s : Seen). s.chars) c.self.view_is in
    let read = rw list at c.kid_open-k.ensures.inside in
    let inside : rest ≤ length v.chars = subst (λ (s : Seen). rest ≤ length s.chars) (sym is) (read v) in
    omega (arith, c.insert.ensures.nodes, both.0, deep)

pub returns-in_err-right-in-Inner-clause-sure : goal.returns-in_err-right-in-Inner-clause-sure
returns-in_err-right-in-Inner-clause-sure t c =
    let kids = c.in-Inner.kids.items in
    let k = c.kid_open-k.result.0 in
    let rest = c.kid_open-k.result.1 in
    let list = c.as_slice.ensures.value in
    let lt : k < length kids = rw list at c.kid_open-k.ensures.within in
    let place = rw list at c.kid_open-k.ensures.before in
    let v = c.index_mut.result.now in
    let is : v ≡ slice_index_or kids k v = c.index_mut.ensures.value in
    let shape = rw c.in-Inner.is at c.self.invariant.shape in
    let d = c.self.inside.depth in
    let both = below_at d kids k v shape.0 lt is in
    let deep : c.args.self.now.depth ≡ d = sym (ap (λ (s : Seen). s.depth) c.self.view_is) in
    let here : all_chars kids ≡ c.args.self.now.chars = sym (ap chars_in c.in-Inner.is) ∙ ap (λ (s : Seen). s.chars) c.self.view_is in
    let read = rw list at c.kid_open-k.ensures.inside in
    let inside : rest ≤ length v.chars = subst (λ (s : Seen). rest ≤ length s.chars) (sym is) (read v) in
    let most = above_most (length c.as_slice-in-Inner.result.now) c.args.above c.above_kids-above_kids.result c.above_kids-above_kids.ensures in
    λ (a : 1 ≤ c.args.spares.now.leaves) (b : c.args.above + c.args.self.now.depth ≤ c.args.spares.now.nodes + 1).
    absurd (false≢true (c.in_err-right-in-Inner.ensures.sure a (omega (arith, most, both.0, deep, b))))

pub settle-right-requires-clause-below : goal.settle-right-requires-clause-below
settle-right-requires-clause-below t c =
    let kids = c.in-Inner.kids.items in
    let k = c.kid_open-k.result.0 in
    let rest = c.kid_open-k.result.1 in
    let list = c.as_slice.ensures.value in
    let lt : k < length kids = rw list at c.kid_open-k.ensures.within in
    let place = rw list at c.kid_open-k.ensures.before in
    let v = c.index_mut.result.now in
    let is : v ≡ slice_index_or kids k v = c.index_mut.ensures.value in
    let shape = rw c.in-Inner.is at c.self.invariant.shape in
    let d = c.self.inside.depth in
    let both = below_at d kids k v shape.0 lt is in
    let deep : c.args.self.now.depth ≡ d = sym (ap (λ (s : Seen). s.depth) c.self.view_is) in
    let here : all_chars kids ≡ c.args.self.now.chars = sym (ap chars_in c.in-Inner.is) ∙ ap (λ (s : Seen). s.chars) c.self.view_is in
    let read = rw list at c.kid_open-k.ensures.inside in
    let inside : rest ≤ length v.chars = subst (λ (s : Seen). rest ≤ length s.chars) (sym is) (read v) in
    let w = c.insert.new.self in
    let right = c.in_ok-right-in-Inner.right in
    let grown = c.in_ok-right-in-Inner.ensures.grown in
    let more : all_chars (with_right (slice_set kids k w) (k + 1) right) ≡ with_more (all_chars kids) c.args.at (typed c.args.ops.now) = grown_chars kids k c.args.at rest (typed c.args.ops.now) v w right lt is place inside grown.chars in
    let long = length-with_more (all_chars kids) (typed c.args.ops.now) c.args.at in
    below_given d kids k (k + 1) v w right refl lt shape.0 both.0 grown.depth grown.sound grown.like

pub settle-right-requires-clause-small : goal.settle-right-requires-clause-small
settle-right-requires-clause-small t c =
    let kids = c.in-Inner.kids.items in
    let k = c.kid_open-k.result.0 in
    let rest = c.kid_open-k.result.1 in
    let list = c.as_slice.ensures.value in
    let lt : k < length kids = rw list at c.kid_open-k.ensures.within in
    let place = rw list at c.kid_open-k.ensures.before in
    let v = c.index_mut.result.now in
    let is : v ≡ slice_index_or kids k v = c.index_mut.ensures.value in
    let shape = rw c.in-Inner.is at c.self.invariant.shape in
    let d = c.self.inside.depth in
    let both = below_at d kids k v shape.0 lt is in
    let deep : c.args.self.now.depth ≡ d = sym (ap (λ (s : Seen). s.depth) c.self.view_is) in
    let here : all_chars kids ≡ c.args.self.now.chars = sym (ap chars_in c.in-Inner.is) ∙ ap (λ (s : Seen). s.chars) c.self.view_is in
    let read = rw list at c.kid_open-k.ensures.inside in
    let inside : rest ≤ length v.chars = subst (λ (s : Seen). rest ≤ length s.chars) (sym is) (read v) in
    let w = c.insert.new.self in
    let right = c.in_ok-right-in-Inner.right in
    let grown = c.in_ok-right-in-Inner.ensures.grown in
    let more : all_chars (with_right (slice_set kids k w) (k + 1) right) ≡ with_more (all_chars kids) c.args.at (typed c.args.ops.now) = grown_chars kids k c.args.at rest (typed c.args.ops.now) v w right lt is place inside grown.chars in
    let long = length-with_more (all_chars kids) (typed c.args.ops.now) c.args.at in
    omega (arith, ap length more, long, ap length here, c.requires.small)

pub sizes_in-sizes-requires-clause-small : goal.sizes_in-sizes-requires-clause-small
sizes_in-sizes-requires-clause-small t c =
    let kids = c.in-Inner.kids.items in
    let k = c.kid_open-k.result.0 in
    let rest = c.kid_open-k.result.1 in
    let list = c.as_slice.ensures.value in
    let lt : k < length kids = rw list at c.kid_open-k.ensures.within in
    let place = rw list at c.kid_open-k.ensures.before in
    let v = c.index_mut.result.now in
    let is : v ≡ slice_index_or kids k v = c.index_mut.ensures.value in
    let shape = rw c.in-Inner.is at c.self.invariant.shape in
    let d = c.self.inside.depth in
    let both = below_at d kids k v shape.0 lt is in
    let deep : c.args.self.now.depth ≡ d = sym (ap (λ (s : Seen). s.depth) c.self.view_is) in
    let here : all_chars kids ≡ c.args.self.now.chars = sym (ap chars_in c.in-Inner.is) ∙ ap (λ (s : Seen). s.chars) c.self.view_is in
    let read = rw list at c.kid_open-k.ensures.inside in
    let inside : rest ≤ length v.chars = subst (λ (s : Seen). rest ≤ length s.chars) (sym is) (read v) in
    let w = c.insert.new.self in
    let right = c.in_ok-right-in-Inner.right in
    let grown = c.in_ok-right-in-Inner.ensures.grown in
    let more : all_chars (with_right (slice_set kids k w) (k + 1) right) ≡ with_more (all_chars kids) c.args.at (typed c.args.ops.now) = grown_chars kids k c.args.at rest (typed c.args.ops.now) v w right lt is place inside grown.chars in
    let long = length-with_more (all_chars kids) (typed c.args.ops.now) c.args.at in
    omega (arith, ap (λ (ks : List Seen). length (all_chars ks)) c.as_slice-in-Inner-2.ensures.value, ap length c.settle-right.ensures.chars, length-append (all_chars c.settle-right.new.kids.items) (chars_of_right c.settle-right.result), ap length more, long, ap length here, c.requires.small)

pub returns-else-is_none-2-clause-grown : goal.returns-else-is_none-2-clause-grown
returns-else-is_none-2-clause-grown t c =
    let kids = c.in-Inner.kids.items in
    let k = c.kid_open-k.result.0 in
    let rest = c.kid_open-k.result.1 in
    let list = c.as_slice.ensures.value in
    let lt : k < length kids = rw list at c.kid_open-k.ensures.within in
    let place = rw list at c.kid_open-k.ensures.before in
    let v = c.index_mut.result.now in
    let is : v ≡ slice_index_or kids k v = c.index_mut.ensures.value in
    let shape = rw c.in-Inner.is at c.self.invariant.shape in
    let d = c.self.inside.depth in
    let both = below_at d kids k v shape.0 lt is in
    let deep : c.args.self.now.depth ≡ d = sym (ap (λ (s : Seen). s.depth) c.self.view_is) in
    let here : all_chars kids ≡ c.args.self.now.chars = sym (ap chars_in c.in-Inner.is) ∙ ap (λ (s : Seen). s.chars) c.self.view_is in
    let read = rw list at c.kid_open-k.ensures.inside in
    let inside : rest ≤ length v.chars = subst (λ (s : Seen). rest ≤ length s.chars) (sym is) (read v) in
    let w = c.insert.new.self in
    let right = c.in_ok-right-in-Inner.right in
    let grown = c.in_ok-right-in-Inner.ensures.grown in
    let more : all_chars (with_right (slice_set kids k w) (k + 1) right) ≡ with_more (all_chars kids) c.args.at (typed c.args.ops.now) = grown_chars kids k c.args.at rest (typed c.args.ops.now) v w right lt is place inside grown.chars in
    let long = length-with_more (all_chars kids) (typed c.args.ops.now) c.args.at in
    let leaves : c.sizes_in-sizes.result.leaves ≡ all_leaves c.settle-right.new.kids.items = c.sizes_in-sizes.ensures.leaves ∙ ap all_leaves c.as_slice-in-Inner-2.ensures.value in
    record {
      chars = c.settle-right.ensures.chars ∙ more ∙ ap (λ (cs : List ℕ). with_more cs c.args.at (typed c.args.ops.now)) here;
      depth = sym deep;
      sound = rw leaves (sound_inner d c.settle-right.new.kids.items c.settle-right.ensures.below c.settle-right.ensures.some);
      like = rw deep c.settle-right.ensures.like;
    }

pub returns-else-is_none-2-clause-nodes : goal.returns-else-is_none-2-clause-nodes
returns-else-is_none-2-clause-nodes t c =
    let kids = c.in-Inner.kids.items in
    let k = c.kid_open-k.result.0 in
    let rest = c.kid_open-k.result.1 in
    let list = c.as_slice.ensures.value in
    let lt : k < length kids = rw list at c.kid_open-k.ensures.within in
    let place = rw list at c.kid_open-k.ensures.before in
    let v = c.index_mut.result.now in
    let is : v ≡ slice_index_or kids k v = c.index_mut.ensures.value in
    let shape = rw c.in-Inner.is at c.self.invariant.shape in
    let d = c.self.inside.depth in
    let both = below_at d kids k v shape.0 lt is in
    let deep : c.args.self.now.depth ≡ d = sym (ap (λ (s : Seen). s.depth) c.self.view_is) in
    let here : all_chars kids ≡ c.args.self.now.chars = sym (ap chars_in c.in-Inner.is) ∙ ap (λ (s : Seen). s.chars) c.self.view_is in
    let read = rw list at c.kid_open-k.ensures.inside in
    let inside : rest ≤ length v.chars = subst (λ (s : Seen). rest ≤ length s.chars) (sym is) (read v) in
    let w = c.insert.new.self in
    let right = c.in_ok-right-in-Inner.right in
    let grown = c.in_ok-right-in-Inner.ensures.grown in
    let more : all_chars (with_right (slice_set kids k w) (k + 1) right) ≡ with_more (all_chars kids) c.args.at (typed c.args.ops.now) = grown_chars kids k c.args.at rest (typed c.args.ops.now) v w right lt is place inside grown.chars in
    let long = length-with_more (all_chars kids) (typed c.args.ops.now) c.args.at in
    omega (arith, c.insert.ensures.nodes, spent _ c.settle-right.new.spares.nodes c.insert.new.spares.nodes c.settle-right.ensures.nodes, both.0, deep)

-- IN A LEAF THAT HAD ROOM
pub overflow_add-self : goal.overflow_add-self
overflow_add-self t c =
    let leaf = c.in-Leaf.leaf in
    let new = c.insert_in_leaf.new.leaf in
    let more = typed c.args.ops.now in
    let own = rw c.in-Leaf.is at c.self.invariant in
    let here : leaf ≡ c.args.self.now.chars = sym (ap chars_in c.in-Leaf.is) ∙ ap (λ (s : Seen). s.chars) c.self.view_is in
    let none : c.in_ok-right-in-Leaf.right ≡ None = none_is c.in_ok-right-in-Leaf.right c.if-is_none.ensures in
    let put : new ++ [] ≡ with_more leaf c.args.at more = ap (λ (r : Option Seen). new ++ chars_of_right r) (sym none) ∙ c.in_ok-right-in-Leaf.ensures.chars in
    let many : c.len.result - c.self.inside.count ≡ length new - length leaf = omega (arith, c.len.ensures.value, own.counted) in
    let read = put_in new leaf more c.args.at (c.len.result - c.self.inside.count) (omega (arith, c.requires.within, ap length here)) (sym (append-nil new) ∙ put) many in
    omega (arith, own.doubled, c.extents_from-more.ensures.wide, ap wide_chars read, wide_grown new [] leaf more c.args.at put, wide_most new, c.len.ensures.value, c.len.ensures.few)

pub overflow_add-self-then-is_none : goal.overflow_add-self-then-is_none
overflow_add-self-then-is_none t c =
    let leaf = c.in-Leaf.leaf in
    let new = c.insert_in_leaf.new.leaf in
    let more = typed c.args.ops.now in
    let own = rw c.in-Leaf.is at c.self.invariant in
    let here : leaf ≡ c.args.self.now.chars = sym (ap chars_in c.in-Leaf.is) ∙ ap (λ (s : Seen). s.chars) c.self.view_is in
    let none : c.in_ok-right-in-Leaf.right ≡ None = none_is c.in_ok-right-in-Leaf.right c.if-is_none.ensures in
    let put : new ++ [] ≡ with_more leaf c.args.at more = ap (λ (r : Option Seen). new ++ chars_of_right r) (sym none) ∙ c.in_ok-right-in-Leaf.ensures.chars in
    let many : c.len.result - c.self.inside.count ≡ length new - length leaf = omega (arith, c.len.ensures.value, own.counted) in
    let read = put_in new leaf more c.args.at (c.len.result - c.self.inside.count) (omega (arith, c.requires.within, ap length here)) (sym (append-nil new) ∙ put) many in
    omega (arith, own.spelled, c.extents_from-more.ensures.bytes, ap utf8_bytes read, bytes_grown new [] leaf more c.args.at put, bytes_most new, c.len.ensures.value, c.len.ensures.few)

pub invariant_of-self-then-is_none : goal.invariant_of-self-then-is_none
invariant_of-self-then-is_none t c =
    let leaf = c.in-Leaf.leaf in
    let new = c.insert_in_leaf.new.leaf in
    let more = typed c.args.ops.now in
    let own = rw c.in-Leaf.is at c.self.invariant in
    let here : leaf ≡ c.args.self.now.chars = sym (ap chars_in c.in-Leaf.is) ∙ ap (λ (s : Seen). s.chars) c.self.view_is in
    let none : c.in_ok-right-in-Leaf.right ≡ None = none_is c.in_ok-right-in-Leaf.right c.if-is_none.ensures in
    let put : new ++ [] ≡ with_more leaf c.args.at more = ap (λ (r : Option Seen). new ++ chars_of_right r) (sym none) ∙ c.in_ok-right-in-Leaf.ensures.chars in
    let many : c.len.result - c.self.inside.count ≡ length new - length leaf = omega (arith, c.len.ensures.value, own.counted) in
    let read = put_in new leaf more c.args.at (c.len.result - c.self.inside.count) (omega (arith, c.requires.within, ap length here)) (sym (append-nil new) ∙ put) many in
    record {
      shape = (own.shape.0, own.shape.1, c.len.ensures.few);
      counted = c.len-self-inside.ensures.value;
      doubled = omega (arith, own.doubled, c.extents_from-more.ensures.wide, ap wide_chars read, wide_grown new [] leaf more c.args.at put);
      spelled = omega (arith, own.spelled, c.extents_from-more.ensures.bytes, ap utf8_bytes read, bytes_grown new [] leaf more c.args.at put);
    }

-- WHERE NO BRANCH BELOW WAS CUT IN TWO
pub overflow_sub-self : goal.overflow_sub-self
overflow_sub-self t c =
    let kids = c.in-Inner.kids.items in
    let k = c.kid_open-k.result.0 in
    let rest = c.kid_open-k.result.1 in
    let list = c.as_slice.ensures.value in
    let lt : k < length kids = rw list at c.kid_open-k.ensures.within in
    let place = rw list at c.kid_open-k.ensures.before in
    let v = c.index_mut.result.now in
    let is : v ≡ slice_index_or kids k v = c.index_mut.ensures.value in
    let w = c.insert.new.self in
    let b : c.index.result.now ≡ v = same_item kids k c.index.result.now v lt c.index.ensures is in
    let a : c.index-then-is_none-2.result.now ≡ w = c.index-then-is_none-2.ensures ∙ get_put kids k w c.index-then-is_none-2.result.now lt in
    let was = c.sizes-before.ensures in
    let now = c.sizes-after.ensures in
    let own = rw c.in-Inner.is at c.self.invariant in
    let here : all_chars kids ≡ c.args.self.now.chars = sym (ap chars_in c.in-Inner.is) ∙ ap (λ (s : Seen). s.chars) c.self.view_is in
    let right = c.in_ok-right-in-Inner.right in
    let none : right ≡ None = none_is right c.if-is_none-2.ensures in
    let grown = c.in_ok-right-in-Inner.ensures.grown in
    let read = rw list at c.kid_open-k.ensures.inside in
    let inside : rest ≤ length v.chars = subst (λ (s : Seen). rest ≤ length s.chars) (sym is) (read v) in
    let put : w.chars ++ [] ≡ with_more v.chars rest (typed c.args.ops.now) = ap (λ (r : Option Seen). w.chars ++ chars_of_right r) (sym none) ∙ grown.chars in
    let more : all_chars (slice_set kids k w) ≡ with_more (all_chars kids) c.args.at (typed c.args.ops.now) = grown_chars kids k c.args.at rest (typed c.args.ops.now) v w None lt is place inside put in
    let both = append-nil (all_chars (slice_set kids k w)) ∙ more in
    omega (arith, was.chars, own.counted, ap (λ (s : Seen). length s.chars) b, chars_so_far kids k v lt is)

pub overflow_add-self-then-is_none-2-2 : goal.overflow_add-self-then-is_none-2-2
overflow_add-self-then-is_none-2-2 t c =
    let kids = c.in-Inner.kids.items in
    let k = c.kid_open-k.result.0 in
    let rest = c.kid_open-k.result.1 in
    let list = c.as_slice.ensures.value in
    let lt : k < length kids = rw list at c.kid_open-k.ensures.within in
    let place = rw list at c.kid_open-k.ensures.before in
    let v = c.index_mut.result.now in
    let is : v ≡ slice_index_or kids k v = c.index_mut.ensures.value in
    let w = c.insert.new.self in
    let b : c.index.result.now ≡ v = same_item kids k c.index.result.now v lt c.index.ensures is in
    let a : c.index-then-is_none-2.result.now ≡ w = c.index-then-is_none-2.ensures ∙ get_put kids k w c.index-then-is_none-2.result.now lt in
    let was = c.sizes-before.ensures in
    let now = c.sizes-after.ensures in
    let own = rw c.in-Inner.is at c.self.invariant in
    let here : all_chars kids ≡ c.args.self.now.chars = sym (ap chars_in c.in-Inner.is) ∙ ap (λ (s : Seen). s.chars) c.self.view_is in
    let right = c.in_ok-right-in-Inner.right in
    let none : right ≡ None = none_is right c.if-is_none-2.ensures in
    let grown = c.in_ok-right-in-Inner.ensures.grown in
    let read = rw list at c.kid_open-k.ensures.inside in
    let inside : rest ≤ length v.chars = subst (λ (s : Seen). rest ≤ length s.chars) (sym is) (read v) in
    let put : w.chars ++ [] ≡ with_more v.chars rest (typed c.args.ops.now) = ap (λ (r : Option Seen). w.chars ++ chars_of_right r) (sym none) ∙ grown.chars in
    let more : all_chars (slice_set kids k w) ≡ with_more (all_chars kids) c.args.at (typed c.args.ops.now) = grown_chars kids k c.args.at rest (typed c.args.ops.now) v w None lt is place inside put in
    let both = append-nil (all_chars (slice_set kids k w)) ∙ more in
    let shape = own.shape in
    let d = c.self.inside.depth in
    let lower = below_at d kids k v shape.0 lt is in
    let below : AllBelow d (slice_set kids k w) = below_given d kids k (k + 1) v w None refl lt shape.0 lower.0 grown.depth grown.sound tt in
    let leaves = leaves_put kids k v w lt is in
    let long = length-with_more (all_chars kids) (typed c.args.ops.now) c.args.at in
    omega (arith, was.leaves, now.leaves, shape.1, ap (λ (s : Seen). s.leaves) b, ap (λ (s : Seen). s.leaves) a, leaves, leaves_so_far kids k v lt is, leaves_some d (slice_set kids k w) below, ap length more, long, ap length here, c.requires.small)

pub overflow_sub-self-then-is_none-2-2 : goal.overflow_sub-self-then-is_none-2-2
overflow_sub-self-then-is_none-2-2 t c =
    let kids = c.in-Inner.kids.items in
    let k = c.kid_open-k.result.0 in
    let rest = c.kid_open-k.result.1 in
    let list = c.as_slice.ensures.value in
    let lt : k < length kids = rw list at c.kid_open-k.ensures.within in
    let place = rw list at c.kid_open-k.ensures.before in
    let v = c.index_mut.result.now in
    let is : v ≡ slice_index_or kids k v = c.index_mut.ensures.value in
    let w = c.insert.new.self in
    let b : c.index.result.now ≡ v = same_item kids k c.index.result.now v lt c.index.ensures is in
    let a : c.index-then-is_none-2.result.now ≡ w = c.index-then-is_none-2.ensures ∙ get_put kids k w c.index-then-is_none-2.result.now lt in
    let was = c.sizes-before.ensures in
    let now = c.sizes-after.ensures in
    let own = rw c.in-Inner.is at c.self.invariant in
    let here : all_chars kids ≡ c.args.self.now.chars = sym (ap chars_in c.in-Inner.is) ∙ ap (λ (s : Seen). s.chars) c.self.view_is in
    let right = c.in_ok-right-in-Inner.right in
    let none : right ≡ None = none_is right c.if-is_none-2.ensures in
    let grown = c.in_ok-right-in-Inner.ensures.grown in
    let read = rw list at c.kid_open-k.ensures.inside in
    let inside : rest ≤ length v.chars = subst (λ (s : Seen). rest ≤ length s.chars) (sym is) (read v) in
    let put : w.chars ++ [] ≡ with_more v.chars rest (typed c.args.ops.now) = ap (λ (r : Option Seen). w.chars ++ chars_of_right r) (sym none) ∙ grown.chars in
    let more : all_chars (slice_set kids k w) ≡ with_more (all_chars kids) c.args.at (typed c.args.ops.now) = grown_chars kids k c.args.at rest (typed c.args.ops.now) v w None lt is place inside put in
    let both = append-nil (all_chars (slice_set kids k w)) ∙ more in
    omega (arith, was.wide, own.doubled, ap (λ (s : Seen). wide_chars s.chars) b, wide_part kids k v lt is)

pub overflow_add-self-then-is_none-2-3 : goal.overflow_add-self-then-is_none-2-3
overflow_add-self-then-is_none-2-3 t c =
    let kids = c.in-Inner.kids.items in
    let k = c.kid_open-k.result.0 in
    let rest = c.kid_open-k.result.1 in
    let list = c.as_slice.ensures.value in
    let lt : k < length kids = rw list at c.kid_open-k.ensures.within in
    let place = rw list at c.kid_open-k.ensures.before in
    let v = c.index_mut.result.now in
    let is : v ≡ slice_index_or kids k v = c.index_mut.ensures.value in
    let w = c.insert.new.self in
    let b : c.index.result.now ≡ v = same_item kids k c.index.result.now v lt c.index.ensures is in
    let a : c.index-then-is_none-2.result.now ≡ w = c.index-then-is_none-2.ensures ∙ get_put kids k w c.index-then-is_none-2.result.now lt in
    let was = c.sizes-before.ensures in
    let now = c.sizes-after.ensures in
    let own = rw c.in-Inner.is at c.self.invariant in
    let here : all_chars kids ≡ c.args.self.now.chars = sym (ap chars_in c.in-Inner.is) ∙ ap (λ (s : Seen). s.chars) c.self.view_is in
    let right = c.in_ok-right-in-Inner.right in
    let none : right ≡ None = none_is right c.if-is_none-2.ensures in
    let grown = c.in_ok-right-in-Inner.ensures.grown in
    let read = rw list at c.kid_open-k.ensures.inside in
    let inside : rest ≤ length v.chars = subst (λ (s : Seen). rest ≤ length s.chars) (sym is) (read v) in
    let put : w.chars ++ [] ≡ with_more v.chars rest (typed c.args.ops.now) = ap (λ (r : Option Seen). w.chars ++ chars_of_right r) (sym none) ∙ grown.chars in
    let more : all_chars (slice_set kids k w) ≡ with_more (all_chars kids) c.args.at (typed c.args.ops.now) = grown_chars kids k c.args.at rest (typed c.args.ops.now) v w None lt is place inside put in
    let both = append-nil (all_chars (slice_set kids k w)) ∙ more in
    let long = length-with_more (all_chars kids) (typed c.args.ops.now) c.args.at in
    omega (
      arith,
      was.wide,
      now.wide,
      own.doubled,
      ap (λ (s : Seen). wide_chars s.chars) b,
      ap (λ (s : Seen). wide_chars s.chars) a,
      wide_part kids k v lt is,
      wide_grown w.chars [] v.chars (typed c.args.ops.now) rest put,
      wide_grown (all_chars (slice_set kids k w)) [] (all_chars kids) (typed c.args.ops.now) c.args.at both,
      wide_most (all_chars (slice_set kids k w)),
      ap length more,
      long,
      ap length here,
      c.requires.small,
    )

pub overflow_sub-self-then-is_none-2-3 : goal.overflow_sub-self-then-is_none-2-3
overflow_sub-self-then-is_none-2-3 t c =
    let kids = c.in-Inner.kids.items in
    let k = c.kid_open-k.result.0 in
    let rest = c.kid_open-k.result.1 in
    let list = c.as_slice.ensures.value in
    let lt : k < length kids = rw list at c.kid_open-k.ensures.within in
    let place = rw list at c.kid_open-k.ensures.before in
    let v = c.index_mut.result.now in
    let is : v ≡ slice_index_or kids k v = c.index_mut.ensures.value in
    let w = c.insert.new.self in
    let b : c.index.result.now ≡ v = same_item kids k c.index.result.now v lt c.index.ensures is in
    let a : c.index-then-is_none-2.result.now ≡ w = c.index-then-is_none-2.ensures ∙ get_put kids k w c.index-then-is_none-2.result.now lt in
    let was = c.sizes-before.ensures in
    let now = c.sizes-after.ensures in
    let own = rw c.in-Inner.is at c.self.invariant in
    let here : all_chars kids ≡ c.args.self.now.chars = sym (ap chars_in c.in-Inner.is) ∙ ap (λ (s : Seen). s.chars) c.self.view_is in
    let right = c.in_ok-right-in-Inner.right in
    let none : right ≡ None = none_is right c.if-is_none-2.ensures in
    let grown = c.in_ok-right-in-Inner.ensures.grown in
    let read = rw list at c.kid_open-k.ensures.inside in
    let inside : rest ≤ length v.chars = subst (λ (s : Seen). rest ≤ length s.chars) (sym is) (read v) in
    let put : w.chars ++ [] ≡ with_more v.chars rest (typed c.args.ops.now) = ap (λ (r : Option Seen). w.chars ++ chars_of_right r) (sym none) ∙ grown.chars in
    let more : all_chars (slice_set kids k w) ≡ with_more (all_chars kids) c.args.at (typed c.args.ops.now) = grown_chars kids k c.args.at rest (typed c.args.ops.now) v w None lt is place inside put in
    let both = append-nil (all_chars (slice_set kids k w)) ∙ more in
    omega (arith, was.bytes, own.spelled, ap (λ (s : Seen). utf8_bytes s.chars) b, bytes_part kids k v lt is)

pub overflow_add-self-then-is_none-2-4 : goal.overflow_add-self-then-is_none-2-4
overflow_add-self-then-is_none-2-4 t c =
    let kids = c.in-Inner.kids.items in
    let k = c.kid_open-k.result.0 in
    let rest = c.kid_open-k.result.1 in
    let list = c.as_slice.ensures.value in
    let lt : k < length kids = rw list at c.kid_open-k.ensures.within in
    let place = rw list at c.kid_open-k.ensures.before in
    let v = c.index_mut.result.now in
    let is : v ≡ slice_index_or kids k v = c.index_mut.ensures.value in
    let w = c.insert.new.self in
    let b : c.index.result.now ≡ v = same_item kids k c.index.result.now v lt c.index.ensures is in
    let a : c.index-then-is_none-2.result.now ≡ w = c.index-then-is_none-2.ensures ∙ get_put kids k w c.index-then-is_none-2.result.now lt in
    let was = c.sizes-before.ensures in
    let now = c.sizes-after.ensures in
    let own = rw c.in-Inner.is at c.self.invariant in
    let here : all_chars kids ≡ c.args.self.now.chars = sym (ap chars_in c.in-Inner.is) ∙ ap (λ (s : Seen). s.chars) c.self.view_is in
    let right = c.in_ok-right-in-Inner.right in
    let none : right ≡ None = none_is right c.if-is_none-2.ensures in
    let grown = c.in_ok-right-in-Inner.ensures.grown in
    let read = rw list at c.kid_open-k.ensures.inside in
    let inside : rest ≤ length v.chars = subst (λ (s : Seen). rest ≤ length s.chars) (sym is) (read v) in
    let put : w.chars ++ [] ≡ with_more v.chars rest (typed c.args.ops.now) = ap (λ (r : Option Seen). w.chars ++ chars_of_right r) (sym none) ∙ grown.chars in
    let more : all_chars (slice_set kids k w) ≡ with_more (all_chars kids) c.args.at (typed c.args.ops.now) = grown_chars kids k c.args.at rest (typed c.args.ops.now) v w None lt is place inside put in
    let both = append-nil (all_chars (slice_set kids k w)) ∙ more in
    let long = length-with_more (all_chars kids) (typed c.args.ops.now) c.args.at in
    omega (
      arith,
      was.bytes,
      now.bytes,
      own.spelled,
      ap (λ (s : Seen). utf8_bytes s.chars) b,
      ap (λ (s : Seen). utf8_bytes s.chars) a,
      bytes_part kids k v lt is,
      bytes_grown w.chars [] v.chars (typed c.args.ops.now) rest put,
      bytes_grown (all_chars (slice_set kids k w)) [] (all_chars kids) (typed c.args.ops.now) c.args.at both,
      bytes_most (all_chars (slice_set kids k w)),
      ap length more,
      long,
      ap length here,
      c.requires.small,
    )

pub invariant_of-self-then-is_none-2 : goal.invariant_of-self-then-is_none-2
invariant_of-self-then-is_none-2 t c =
    let kids = c.in-Inner.kids.items in
    let k = c.kid_open-k.result.0 in
    let rest = c.kid_open-k.result.1 in
    let list = c.as_slice.ensures.value in
    let lt : k < length kids = rw list at c.kid_open-k.ensures.within in
    let place = rw list at c.kid_open-k.ensures.before in
    let v = c.index_mut.result.now in
    let is : v ≡ slice_index_or kids k v = c.index_mut.ensures.value in
    let w = c.insert.new.self in
    let b : c.index.result.now ≡ v = same_item kids k c.index.result.now v lt c.index.ensures is in
    let a : c.index-then-is_none-2.result.now ≡ w = c.index-then-is_none-2.ensures ∙ get_put kids k w c.index-then-is_none-2.result.now lt in
    let was = c.sizes-before.ensures in
    let now = c.sizes-after.ensures in
    let own = rw c.in-Inner.is at c.self.invariant in
    let here : all_chars kids ≡ c.args.self.now.chars = sym (ap chars_in c.in-Inner.is) ∙ ap (λ (s : Seen). s.chars) c.self.view_is in
    let right = c.in_ok-right-in-Inner.right in
    let none : right ≡ None = none_is right c.if-is_none-2.ensures in
    let grown = c.in_ok-right-in-Inner.ensures.grown in
    let read = rw list at c.kid_open-k.ensures.inside in
    let inside : rest ≤ length v.chars = subst (λ (s : Seen). rest ≤ length s.chars) (sym is) (read v) in
    let put : w.chars ++ [] ≡ with_more v.chars rest (typed c.args.ops.now) = ap (λ (r : Option Seen). w.chars ++ chars_of_right r) (sym none) ∙ grown.chars in
    let more : all_chars (slice_set kids k w) ≡ with_more (all_chars kids) c.args.at (typed c.args.ops.now) = grown_chars kids k c.args.at rest (typed c.args.ops.now) v w None lt is place inside put in
    let both = append-nil (all_chars (slice_set kids k w)) ∙ more in
    let shape = own.shape in
    let d = c.self.inside.depth in
    let lower = below_at d kids k v shape.0 lt is in
    let below : AllBelow d (slice_set kids k w) = below_given d kids k (k + 1) v w None refl lt shape.0 lower.0 grown.depth grown.sound tt in
    let leaves = leaves_put kids k v w lt is in
    let short = length-set kids k w in
    let old = length-with_more v.chars (typed c.args.ops.now) rest in
    let long = length-with_more (all_chars kids) (typed c.args.ops.now) c.args.at in
    record {
      shape = (below, omega (arith, was.leaves, now.leaves, shape.1, ap (λ (s : Seen). s.leaves) b, ap (λ (s : Seen). s.leaves) a, leaves, leaves_so_far kids k v lt is), omega (arith, short, shape.2), omega (arith, short, shape.3), shape.4);
      counted = omega (arith, was.chars, now.chars, own.counted, ap (λ (s : Seen). length s.chars) b, ap (λ (s : Seen). length s.chars) a, chars_so_far kids k v lt is, ap length put, length-append w.chars [], old, ap length more, long);
      doubled = omega (arith, was.wide, now.wide, own.doubled, ap (λ (s : Seen). wide_chars s.chars) b, ap (λ (s : Seen). wide_chars s.chars) a, wide_part kids k v lt is, wide_grown w.chars [] v.chars (typed c.args.ops.now) rest put, wide_grown (all_chars (slice_set kids k w)) [] (all_chars kids) (typed c.args.ops.now) c.args.at both);
      spelled = omega (arith, was.bytes, now.bytes, own.spelled, ap (λ (s : Seen). utf8_bytes s.chars) b, ap (λ (s : Seen). utf8_bytes s.chars) a, bytes_part kids k v lt is, bytes_grown w.chars [] v.chars (typed c.args.ops.now) rest put, bytes_grown (all_chars (slice_set kids k w)) [] (all_chars kids) (typed c.args.ops.now) c.args.at both);
    }

pub returns-then-is_none-2-clause-grown : goal.returns-then-is_none-2-clause-grown
returns-then-is_none-2-clause-grown t c =
    let kids = c.in-Inner.kids.items in
    let k = c.kid_open-k.result.0 in
    let rest = c.kid_open-k.result.1 in
    let list = c.as_slice.ensures.value in
    let lt : k < length kids = rw list at c.kid_open-k.ensures.within in
    let place = rw list at c.kid_open-k.ensures.before in
    let v = c.index_mut.result.now in
    let is : v ≡ slice_index_or kids k v = c.index_mut.ensures.value in
    let w = c.insert.new.self in
    let b : c.index.result.now ≡ v = same_item kids k c.index.result.now v lt c.index.ensures is in
    let a : c.index-then-is_none-2.result.now ≡ w = c.index-then-is_none-2.ensures ∙ get_put kids k w c.index-then-is_none-2.result.now lt in
    let was = c.sizes-before.ensures in
    let now = c.sizes-after.ensures in
    let own = rw c.in-Inner.is at c.self.invariant in
    let here : all_chars kids ≡ c.args.self.now.chars = sym (ap chars_in c.in-Inner.is) ∙ ap (λ (s : Seen). s.chars) c.self.view_is in
    let right = c.in_ok-right-in-Inner.right in
    let none : right ≡ None = none_is right c.if-is_none-2.ensures in
    let grown = c.in_ok-right-in-Inner.ensures.grown in
    let read = rw list at c.kid_open-k.ensures.inside in
    let inside : rest ≤ length v.chars = subst (λ (s : Seen). rest ≤ length s.chars) (sym is) (read v) in
    let put : w.chars ++ [] ≡ with_more v.chars rest (typed c.args.ops.now) = ap (λ (r : Option Seen). w.chars ++ chars_of_right r) (sym none) ∙ grown.chars in
    let more : all_chars (slice_set kids k w) ≡ with_more (all_chars kids) c.args.at (typed c.args.ops.now) = grown_chars kids k c.args.at rest (typed c.args.ops.now) v w None lt is place inside put in
    let both = append-nil (all_chars (slice_set kids k w)) ∙ more in
    let shape = own.shape in
    let d = c.self.inside.depth in
    let deep : c.args.self.now.depth ≡ d = sym (ap (λ (s : Seen). s.depth) c.self.view_is) in
    let lower = below_at d kids k v shape.0 lt is in
    let below : AllBelow d (slice_set kids k w) = below_given d kids k (k + 1) v w None refl lt shape.0 lower.0 grown.depth grown.sound tt in
    let parts : c.args.self.now.parts ≡ length kids = sym (ap (λ (s : Seen). s.parts) c.self.view_is) ∙ ap parts_in c.in-Inner.is in
    let two : least c.args.self.now.depth ≡ 2 = ap least deep ∙ least_two d (high d kids shape.0 shape.2) in
    let leaves : c.self.inside.leaves - c.sizes-before.result.leaves + c.sizes-after.result.leaves ≡ all_leaves (slice_set kids k w) =
    omega (arith, was.leaves, now.leaves, shape.1, ap (λ (s : Seen). s.leaves) b, ap (λ (s : Seen). s.leaves) a, leaves_put kids k v w lt is, leaves_so_far kids k v lt is) in
    record {
      chars = both ∙ ap (λ (cs : List ℕ). with_more cs c.args.at (typed c.args.ops.now)) here;
      depth = sym deep;
      sound = rw leaves (sound_inner d (slice_set kids k w) below (omega (arith, length-set kids k w, parts, two, c.requires.sound.parts)));
      like = tt;
    }

pub returns-then-is_none-2-clause-nodes : goal.returns-then-is_none-2-clause-nodes
returns-then-is_none-2-clause-nodes t c =
    let kids = c.in-Inner.kids.items in
    let k = c.kid_open-k.result.0 in
    let rest = c.kid_open-k.result.1 in
    let list = c.as_slice.ensures.value in
    let lt : k < length kids = rw list at c.kid_open-k.ensures.within in
    let place = rw list at c.kid_open-k.ensures.before in
    let v = c.index_mut.result.now in
    let is : v ≡ slice_index_or kids k v = c.index_mut.ensures.value in
    let w = c.insert.new.self in
    let b : c.index.result.now ≡ v = same_item kids k c.index.result.now v lt c.index.ensures is in
    let a : c.index-then-is_none-2.result.now ≡ w = c.index-then-is_none-2.ensures ∙ get_put kids k w c.index-then-is_none-2.result.now lt in
    let was = c.sizes-before.ensures in
    let now = c.sizes-after.ensures in
    let own = rw c.in-Inner.is at c.self.invariant in
    let here : all_chars kids ≡ c.args.self.now.chars = sym (ap chars_in c.in-Inner.is) ∙ ap (λ (s : Seen). s.chars) c.self.view_is in
    let right = c.in_ok-right-in-Inner.right in
    let none : right ≡ None = none_is right c.if-is_none-2.ensures in
    let grown = c.in_ok-right-in-Inner.ensures.grown in
    let read = rw list at c.kid_open-k.ensures.inside in
    let inside : rest ≤ length v.chars = subst (λ (s : Seen). rest ≤ length s.chars) (sym is) (read v) in
    let put : w.chars ++ [] ≡ with_more v.chars rest (typed c.args.ops.now) = ap (λ (r : Option Seen). w.chars ++ chars_of_right r) (sym none) ∙ grown.chars in
    let more : all_chars (slice_set kids k w) ≡ with_more (all_chars kids) c.args.at (typed c.args.ops.now) = grown_chars kids k c.args.at rest (typed c.args.ops.now) v w None lt is place inside put in
    let both = append-nil (all_chars (slice_set kids k w)) ∙ more in
    let lower = below_at c.self.inside.depth kids k v own.shape.0 lt is in
    let deep : c.args.self.now.depth ≡ c.self.inside.depth = sym (ap (λ (s : Seen). s.depth) c.self.view_is) in
    omega (arith, c.insert.ensures.nodes, lower.0, deep)
