use Rattle.std.proofs.Common.{◌≡◌, ◌+◌, List, ◌++◌, length, take, drop, remove, slice_index_or, arith, rules, sym, ap, ◌∙◌, subst}
use Rattle.rope.specs.Nodes.{Seen, all_chars}
use Rattle.rope.specs.Shape.{AllBelow, IsSound}
use Rattle.rope.proofs.KidLists.{below_whole, below_removed, emptied_chars, moved_chars, removed_long}
use Rattle.rope.proofs.mend.mend.Goals as goal

pub returns-then-is_sound-clause-below : goal.returns-then-is_sound-clause-below
returns-then-is_sound-clause-below c =
    let kids = c.args.kids.now.items in
    let k = c.args.k in
    let v = c.index.result.now in
    let is : v ≡ slice_index_or kids k v = c.index.ensures in
    let sound : IsSound v = search rules in
    let lower : v.depth + 1 ≡ c.args.depth = ap (λ (s : Seen). s.depth + 1) is ∙ c.requires.lower v in
    below_whole c.args.depth kids k v c.requires.within is c.requires.before c.requires.behind lower sound

pub give-requires-clause-below : goal.give-requires-clause-below
give-requires-clause-below c =
    let kids = c.args.kids.now.items in
    let k = c.args.k in
    let poor = c.remove-poor.result in
    let is : poor ≡ slice_index_or kids k poor = c.remove-poor.ensures.value in
    let items : c.remove-poor.new.self.items ≡ remove kids k = c.remove-poor.ensures.items in
    subst (AllBelow c.args.depth) (sym items) (below_removed c.args.depth kids k c.requires.before c.requires.behind)

pub give-requires-clause-small : goal.give-requires-clause-small
give-requires-clause-small c =
    let kids = c.args.kids.now.items in
    let k = c.args.k in
    let poor = c.remove-poor.result in
    let is : poor ≡ slice_index_or kids k poor = c.remove-poor.ensures.value in
    let items : c.remove-poor.new.self.items ≡ remove kids k = c.remove-poor.ensures.items in
    let same : poor.chars ≡ c.in-Some.kid.chars = c.in-Some.ensures.0 in
    omega (arith, ap (λ (ks : List Seen). length (all_chars ks)) items, removed_long kids k poor c.in-Some.kid c.requires.within is same, c.requires.small)

pub returns-in-Some-clause-chars : goal.returns-in-Some-clause-chars
returns-in-Some-clause-chars c =
    let kids = c.args.kids.now.items in
    let k = c.args.k in
    let poor = c.remove-poor.result in
    let is : poor ≡ slice_index_or kids k poor = c.remove-poor.ensures.value in
    let items : c.remove-poor.new.self.items ≡ remove kids k = c.remove-poor.ensures.items in
    let kid = c.in-Some.kid in
    let same : poor.chars ≡ kid.chars = c.in-Some.ensures.0 in
    c.give.ensures.chars ∙ ap (λ (ks : List Seen). all_chars (take k ks) ++ (kid.chars ++ all_chars (drop k ks))) items ∙ moved_chars kids k poor kid c.requires.within is same

pub returns-in_default-clause-chars : goal.returns-in_default-clause-chars
returns-in_default-clause-chars c =
    let kids = c.args.kids.now.items in
    let k = c.args.k in
    let poor = c.remove-poor.result in
    let is : poor ≡ slice_index_or kids k poor = c.remove-poor.ensures.value in
    let items : c.remove-poor.new.self.items ≡ remove kids k = c.remove-poor.ensures.items in
    ap all_chars items ∙ emptied_chars kids k poor c.requires.within is c.in_default.ensures

pub returns-in_default-clause-below : goal.returns-in_default-clause-below
returns-in_default-clause-below c =
    let kids = c.args.kids.now.items in
    let k = c.args.k in
    let poor = c.remove-poor.result in
    let is : poor ≡ slice_index_or kids k poor = c.remove-poor.ensures.value in
    let items : c.remove-poor.new.self.items ≡ remove kids k = c.remove-poor.ensures.items in
    subst (AllBelow c.args.depth) (sym items) (below_removed c.args.depth kids k c.requires.before c.requires.behind)
