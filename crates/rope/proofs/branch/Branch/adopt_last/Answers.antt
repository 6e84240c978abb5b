use Rattle.std.proofs.Common.{◌≡◌, ◌+◌, List, length, length-append, arith, sym, ap, ◌∙◌}
use Rattle.rope.specs.Nodes.{Seen, all_chars, all_leaves}
use Rattle.rope.specs.Shape.{chars_in}
use Rattle.rope.specs.Rights.{chars_of_right}
use Rattle.rope.proofs.KidLists.{sound_inner, insert_long, below_insert}
use Rattle.rope.proofs.branch.Branch.adopt_last.Goals as goal

pub sizes_in-sizes-requires-clause-small : goal.sizes_in-sizes-requires-clause-small
sizes_in-sizes-requires-clause-small c =
    let here : all_chars c.in-Inner.kids.items ≡ c.args.self.now.chars = sym (ap chars_in c.in-Inner.is) ∙ ap (λ (s : Seen). s.chars) c.self.view_is in
    let list = ap (λ (ks : List Seen). length (all_chars ks)) c.as_slice-in-Inner.ensures.value in
    let whole = ap length c.put_kid-right.ensures.chars in
    omega (arith, list, whole, length-append (all_chars c.put_kid-right.new.kids.items) (chars_of_right c.put_kid-right.result), insert_long c.in-Inner.kids.items c.len-end.result c.args.kid, ap length here, c.requires.small)

pub returns-clause-sound : goal.returns-clause-sound
returns-clause-sound c =
    let leaves : c.sizes_in-sizes.result.leaves ≡ all_leaves c.put_kid-right.new.kids.items = c.sizes_in-sizes.ensures.leaves ∙ ap all_leaves c.as_slice-in-Inner.ensures.value in
    rw leaves (sound_inner c.self.inside.depth c.put_kid-right.new.kids.items c.put_kid-right.ensures.below c.put_kid-right.ensures.some)

pub put_kid-right-requires-clause-below : goal.put_kid-right-requires-clause-below
put_kid-right-requires-clause-below c =
    let shape = rw c.in-Inner.is at c.self.invariant.shape in
    let lower : c.args.kid.depth + 1 ≡ c.self.inside.depth = c.requires.lower ∙ sym (ap (λ (s : Seen). s.depth) c.self.view_is) in
    below_insert c.self.inside.depth c.in-Inner.kids.items c.len-end.result c.args.kid shape.0 lower c.requires.kid
