use Rattle.std.proofs.Common.{◌≡◌, ℕ, ◌<◌, List, length, slice_index_or, slice_get, sym, ap, ◌∙◌, subst}
use Rattle.rope.specs.Nodes.{Seen, all_chars}
use Rattle.rope.specs.Shape.{chars_in}
use Rattle.rope.proofs.KidLists.{kid_char}
use Rattle.rope.proofs.branch.Branch.+char_at.Goals as goal

pub returns-in-Inner : goal.returns-in-Inner
returns-in-Inner t c =
    let kids = c.in-Inner.kids.items in
    let k = c.kid_at-k.result.0 in
    let rest = c.kid_at-k.result.1 in
    let list = c.as_slice.ensures.value in
    let lt : k < length kids = rw list at c.kid_at-k.ensures.within in
    let place = rw list at c.kid_at-k.ensures.before in
    let kid = c.index.result.now in
    let is : kid ≡ slice_index_or kids k kid = c.index.ensures in
    let read = rw list at c.kid_at-k.ensures.inside in
    let inside : rest < length kid.chars = subst (λ (s : Seen). rest < length s.chars) (sym is) (read kid) in
    let here : all_chars kids ≡ c.args.self.now.chars = sym (ap chars_in c.in-Inner.is) ∙ ap (λ (s : Seen). s.chars) c.self.view_is in
    ap (λ (cs : List ℕ). slice_get cs c.args.i) (sym here) ∙ kid_char kids k c.args.i rest c.char_at-in-Inner.result kid lt is place inside c.char_at-in-Inner.ensures
