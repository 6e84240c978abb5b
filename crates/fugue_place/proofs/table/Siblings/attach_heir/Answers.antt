use Rattle.std.proofs.Common.{◌≡◌, ◌+◌, ◌-◌, ◌<◌, ◌^◌, true, List, [], ◌∷◌, ◌++◌, length, None, Some, sym, subst, ap, ◌∙◌, arith}
use Rattle.std.specs.BTreeMap.{get}
use Rattle.fugue_place.specs.declared.child.Side.TheVariants.{Left, Right}
use Rattle.fugue_place.specs.declared.child.Attached.{Attached}
use Rattle.fugue_place.specs.Attachments.{MayAttach}
use Rattle.fugue_place.specs.Heirs.{is_heir}
use Rattle.fugue_place.specs.Places.{ArePlaces}
use Rattle.fugue_place.specs.Spots.{spot_cmp}
use Rattle.fugue_place.specs.Ways.{way_of}
use Rattle.fugue_place.proofs.IndexLaws.{heir_more}
use Rattle.fugue_place.proofs.KeptLaws.{unchanged, siblings_same, siblings_more, some_newest, last_newest, heir_behind}
use Rattle.fugue_place.proofs.LeaderLaws.{heir_left}
use Rattle.fugue_place.proofs.table.Siblings.attach_heir.Goals as goal

pub invariant_of-self : goal.invariant_of-self
invariant_of-self c =
    let old = c.self.inside in
    let kept = c.self.invariant in
    siblings_same old.children.items c.reserve.new.self.items (get spot_cmp old.spots) (get spot_cmp old.spots) old.places old.places old.left old.right old.left old.right
    kept c.reserve.ensures.same kept.spots kept.places (unchanged old.left) (unchanged old.right)

pub invariant_of-self-in_err-add : goal.invariant_of-self-in_err-add
invariant_of-self-in_err-add c =
    let old = c.self.inside in
    let kept = c.self.invariant in
    siblings_same old.children.items c.reserve.new.self.items (get spot_cmp old.spots) (get spot_cmp old.spots) old.places c.add.new.self old.left old.right old.left old.right
    kept c.reserve.ensures.same kept.spots (subst (λ (xs : List Attached). ArePlaces xs c.add.new.self) c.reserve.ensures.same c.in_err-add.ensures.err) (unchanged old.left) (unchanged old.right)

pub go_on-requires : goal.go_on-requires
go_on-requires c =
    let a : Attached = c.args.child in
    let old = c.self.inside in
    let items = old.children.items in
    let kept = c.self.invariant in
    let heir : is_heir items a ≡ true = ap (λ (xs : List Attached). is_heir xs a) c.self.view_is ∙ c.requires.heir in
    let few : length c.reserve.new.self.items + 1 < 2 ^ 32 = c.in_ok-agent.ensures.few in
    let same : length c.reserve.new.self.items ≡ length items = ap length c.reserve.ensures.same in
    let count : old.left.count ≡ length items = kept.left.count in
    record {
      ways = kept.left.ways;
      few = omega (arith, few, same, count);
      some = some_newest items kept.attached a heir Left old.left kept.left;
      last = last_newest items kept.attached a heir Left old.left kept.left;
    }

pub go_on-requires-2 : goal.go_on-requires-2
go_on-requires-2 c =
    let a : Attached = c.args.child in
    let old = c.self.inside in
    let items = old.children.items in
    let kept = c.self.invariant in
    let heir : is_heir items a ≡ true = ap (λ (xs : List Attached). is_heir xs a) c.self.view_is ∙ c.requires.heir in
    let few : length c.reserve.new.self.items + 1 < 2 ^ 32 = c.in_ok-agent.ensures.few in
    let same : length c.reserve.new.self.items ≡ length items = ap length c.reserve.ensures.same in
    let count : old.right.count ≡ length items = kept.right.count in
    record {
      ways = kept.right.ways;
      few = omega (arith, few, same, count);
      some = some_newest items kept.attached a heir Right old.right kept.right;
      last = last_newest items kept.attached a heir Right old.right kept.right;
    }

pub invariant_of-self-2 : goal.invariant_of-self-2
invariant_of-self-2 c =
    let a : Attached = c.args.child in
    let old = c.self.inside in
    let items = old.children.items in
    let kept = c.self.invariant in
    let before = c.reserve.ensures.same in
    let heir : is_heir items a ≡ true = ap (λ (xs : List Attached). is_heir xs a) c.self.view_is ∙ c.requires.heir in
    siblings_more items c.push_heir.new.self.items a (c.push_heir.ensures ∙ ap (λ (xs : List Attached). xs ++ a ∷ []) before) (subst (λ (xs : List Attached). MayAttach xs a) (sym c.self.view_is) c.requires.may)
    (get spot_cmp old.spots) (get spot_cmp old.spots) old.places c.add.new.self old.left old.right c.go_on.new.self c.go_on-2.new.self kept
    (heir_more items a (get spot_cmp old.spots) kept.spots heir) (subst (λ (xs : List Attached). ArePlaces (xs ++ a ∷ []) c.add.new.self) before c.in_ok-add.ensures.ok)
    None (Some (old.right.count - 1)) tt (heir_left items kept.attached a heir (way_of old.left)) (heir_behind items kept.attached a heir old.right kept.right) tt
    (c.go_on.ensures.left kept.left.end) (c.go_on-2.ensures.right kept.right.end)
