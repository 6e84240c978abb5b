use Rattle.std.proofs.Common.{◌≡◌, List, length, sym, subst, arith}
use Rattle.std.specs.BTreeMap.{get}
use Rattle.fugue_place.specs.declared.child.Attached.{Attached}
use Rattle.fugue_place.specs.Heirs.{AreNew}
use Rattle.fugue_place.specs.Spots.{spot_cmp}
use Rattle.fugue_place.proofs.HeirStates.{heirs_few, siblings_grown}
use Rattle.fugue_place.proofs.table.Siblings.attach_heirs.Goals as goal

pub add_rising-requires : goal.add_rising-requires
add_rising-requires c =
    let old = c.self.inside in
    let few = heirs_few old.children.items c.push_heirs.new.self.items c.args.newest c.args.count (c.push_heirs.ensures.yes c.if-not-push_heirs.false) (c.push_heirs.ensures.few c.if-not-push_heirs.false) in
    let rise = c.all_rise.ensures c.if-not-all_rise.false in
    record { few = omega (arith, few, rise) }

pub go_on_by-requires : goal.go_on_by-requires
go_on_by-requires c =
    let old = c.self.inside in
    let few = heirs_few old.children.items c.push_heirs.new.self.items c.args.newest c.args.count (c.push_heirs.ensures.yes c.if-not-push_heirs.false) (c.push_heirs.ensures.few c.if-not-push_heirs.false) in
    let count : old.left.count ≡ length old.children.items = c.self.invariant.left.count in
    record { few = omega (arith, few, count) }

pub go_on_by-requires-2 : goal.go_on_by-requires-2
go_on_by-requires-2 c =
    let old = c.self.inside in
    let few = heirs_few old.children.items c.push_heirs.new.self.items c.args.newest c.args.count (c.push_heirs.ensures.yes c.if-not-push_heirs.false) (c.push_heirs.ensures.few c.if-not-push_heirs.false) in
    let count : old.right.count ≡ length old.children.items = c.self.invariant.right.count in
    record { few = omega (arith, few, count) }

pub invariant_of-self-2 : goal.invariant_of-self-2
invariant_of-self-2 c =
    let old = c.self.inside in
    siblings_grown old.children.items c.push_heirs.new.self.items c.args.newest c.args.count (c.push_heirs.ensures.yes c.if-not-push_heirs.false) (c.push_heirs.ensures.few c.if-not-push_heirs.false)
    (get spot_cmp old.spots) old.places c.add_rising.new.self old.left old.right c.go_on_by.new.self c.go_on_by-2.new.self c.self.invariant
    (subst (λ (xs : List Attached). AreNew xs c.args.newest c.args.count) (sym c.self.view_is) c.requires.new) (c.all_rise.ensures c.if-not-all_rise.false)
    c.add_rising.ensures c.go_on_by.ensures c.go_on_by-2.ensures
